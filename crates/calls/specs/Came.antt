-- What came of a line, and the session after it. Definitions only.
use Rattle.std.specs.Prelude.{⊤, Result, Err}
use Rattle.encoding.specs.declared.check.ListError.{ListError}
use Rattle.encoding.specs.declared.check.ListError.TheVariants.{NotOpened}
use Rattle.examining.specs.Marks.{ran}
use Rattle.calls.specs.declared.sessions.Came.{Came}
use Rattle.calls.specs.declared.sessions.Came.TheVariants.{Nothing, Called, Opened}

-- whether a call was run, if one was made
abbrev pub came_ran : Came → Result ⊤ ListError
came_ran Nothing = Err NotOpened
came_ran (Opened r) = Err NotOpened
came_ran (Called r) = ran r
