-- A choice by a test. It is shut until a proof opens it, so that nothing computes it by accident. Definitions only.
use Rattle.std.specs.Prelude.{Bool, true, false}

-- a where the test holds, else b
unfoldable pub pick : {A : Type 0} → Bool → A → A → A
pick true a b = a
pick false a b = b
