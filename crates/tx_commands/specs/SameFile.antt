-- Whether a file to be made is another file of its command, by whatever name.
use Rattle.std.specs.Prelude.{◌==◌, Bool, ◌&&◌, bytes_eq}
use Rattle.std.specs.Option.{option_eq}
use Rattle.tx_commands.specs.declared.known_file.KnownFile.{KnownFile}

-- Two names mean one file: the number and the device are one. If it is not there yet they are those
-- of its folder, and its name in the folder is one too.
abbrev pub is_same_file : KnownFile → KnownFile → Bool
is_same_file a b = (a.id.device == b.id.device) && ((a.id.number == b.id.number)
    && option_eq (λ x y. bytes_eq x.now y.now) a.free b.free)
