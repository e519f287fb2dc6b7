use Rattle.std.proofs.Common.{◌∙◌, ap, drop, List}
use Rattle.std.specs.Option.{is_some}
use Rattle.std.proofs.lemmas.List.{take_rest}
use Rattle.sb_update.specs.raid_types_the_Role.{Role}
use Rattle.sb_update.specs.sb_specs_Update.{role_from}
use Rattle.sb_update.proofs.sb_specs_SlotSets.{some_role}
use Rattle.reshape_sb_updates.proofs.ending.holds_from.Goals as goal

pub returns : goal.returns
returns c =
    c.is_some.ensures ∙ ap is_some c.role_of.ensures.role ∙ ap (λ (l : List Role). is_some (role_from c.args.slot 0 l)) (take_rest c.args.roles.now c.args.disks) ∙ some_role c.args.slot 0 (drop c.args.disks c.args.roles.now)
