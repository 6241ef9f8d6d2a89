-- Which first argument asks for what. Assumes nothing.
use Rattle.std.specs.Prelude.{◌≡◌, ℕ, ◌⊎◌, List, Ok, Err, Result, codes, ◌≢◌}
use Rattle.console.specs.declared.commands.Command.{Command}
use Rattle.console.specs.declared.commands.Command.TheVariants.{Help, Replay, Settled}
use Rattle.console.specs.declared.commands.UnknownCommand.{UnknownCommand}

-- --help and -h ask for help, each command on a file has its name, and nothing else is known
abbrev pub Asks : List ℕ → Result Command UnknownCommand → Type 0
Asks word (Ok Help) = (word ≡ codes "--help") ⊎ (word ≡ codes "-h")
Asks word (Ok Replay) = word ≡ codes "replay"
Asks word (Ok Settled) = word ≡ codes "settled"
Asks word (Err unknown) = (word ≢ codes "--help") × (word ≢ codes "-h") × (word ≢ codes "replay") × (word ≢ codes "settled")
