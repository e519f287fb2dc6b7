-- What a device in memory notes.
use Rattle.std.specs.Prelude.{◌==◌, List, [], ◌∷◌, Some, None, if◌then◌else◌}
use Rattle.std.specs.Option.{option_or}
use Rattle.bank_file.specs.Logs.{Log}
use Rattle.bank_file.specs.declared.memory_device.Entry.{Entry}

-- what was done under each number: the last of the entries with it
abbrev pub noted : List Entry → Log
noted [] number = None
noted (entry ∷ entries) number = option_or (noted entries number) (if entry.number == number then Some entry.done else None)
