use Rattle.std.proofs.Common.{◌+◌, ℕ, Option, option_map, sym, ◌∙◌, ap}
use Rattle.sb_update.specs.raid_types_the_Refusal_TheVariants.{NotResynced}
use Rattle.raid_layout.specs.Layout.{place}
use Rattle.sb_safe_updates.specs.First.{first_lacking}
use Rattle.sb_safe_updates.proofs.RefusingLaws.{few-first, told-few, none-beyond}
use Rattle.sb_safe_updates.proofs.refusing.first_read_refusal.Goals as goal

-- no sector lies behind all rows
pub returns-then-mended-members : goal.returns-then-mended-members
returns-then-mended-members c =
    let m = c.args.members.now in
    sym (few-first c.args.shape.now m (option_map (λ role. NotResynced role) (first_lacking c.args.shape.now c.args.mended c.args.first c.args.count m))
    (told-few c.args.shape.now m c.too_many_of-refusal.result (sym c.is_some.ensures ∙ c.if-is_some.false) c.too_many_of-refusal.ensures)
    ∙ ap (λ (o : Option ℕ). option_map (λ role. NotResynced role) (option_map (λ i. (place c.args.shape.now (c.args.first + i)).role) o))
    (none-beyond c.args.shape.now m c.args.mended c.args.first c.args.count c.requires.shape c.requires.multiple c.requires.within c.if-mended-members.true))
