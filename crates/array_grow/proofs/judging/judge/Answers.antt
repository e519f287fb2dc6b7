use Rattle.std.proofs.Common.{◌≡◌, ℕ, length, ◌∙◌, ap, subst, sym}
use Rattle.std.specs.Prelude.{option_map}
use Rattle.array_reply_specs.specs.bank_Given.{sizes}
use Rattle.array_transition.specs.sb_specs_Reading.{list_length, is_reshaping}
use Rattle.array_transition.specs.reshape_request_Asked.{asked_of, grow_refusal}
use Rattle.array_transition.specs.reshape_request_Left.{phases_of}
use Rattle.array_transition.specs.array_specs_Parts.{visible_size, visible_in}
use Rattle.array_transition.proofs.array_specs_VisibleLaws.{visible-is}
use Rattle.array_grow.proofs.Told.{first-as, visible-as}
use Rattle.array_grow.proofs.judging.judge.Goals as goal

pub returns-clause-first : goal.returns-clause-first
returns-clause-first g c =
    let p = c.part_fixed-pieces.result in
    let same = c.part_fixed-pieces.ensures.same in
    let seen : c.visible-visible.result ≡ visible_size p.members p.limit = c.visible-visible.ensures.visible ∙ ap (λ s. visible_in s) same in
    first-as g.B.Bank.given c.args.wish.now c.unplanned-refusal.result c.args.still _ same
    (subst (λ (n : ℕ). c.unplanned-refusal.result ≡ grow_refusal (asked_of p.members p.work.resync (length (phases_of p.ahead)) n (option_map (sizes (g.B.Bank.given p.bank)).sectors p.backup)) c.args.wish.now) seen
    c.unplanned-refusal.ensures)

pub returns-clause-visible : goal.returns-clause-visible
returns-clause-visible g c =
    let was = c.part_fixed-pieces.ensures.ready in
    let p = c.part_fixed-pieces.result in
    visible-as c.args.still _ c.part_fixed-pieces.ensures.same (visible-is (list_length p.members.newest) (list_length p.members.newest) p.limit p.epoch.entries.items was.sized was.limited)

pub returns-clause-still : goal.returns-clause-still
returns-clause-still g c = ap (λ s. is_reshaping s.parts.members.newest) (c.of_fixed.ensures.same ∙ sym c.part_fixed-pieces.ensures.same) ∙ c.requires.still
