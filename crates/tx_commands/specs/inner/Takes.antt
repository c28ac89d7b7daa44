-- What a command in the making takes.
use Rattle.std.specs.Prelude.{◌≡◌, IfOk}
use Rattle.clap.specs.Words.{App, app_of}
use Rattle.tx_commands.specs.declared.arguments.Syntax.{Syntax}

-- a command takes these words, unless memory ran out
abbrev pub Takes : Syntax → App → Type 0
Takes syntax app = IfOk syntax.command (λ c. app_of c ≡ app)
