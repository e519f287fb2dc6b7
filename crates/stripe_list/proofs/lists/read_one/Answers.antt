use Rattle.std.proofs.Common.{◌≡◌, ◌<◌, Some, false, sym, ◌∙◌, ap, subst}
use Rattle.raid_layout.specs.raid_types_the_Place.{Place}
use Rattle.raid_layout.specs.Layout.{place}
use Rattle.stripe_row.specs.raid_parity_Rows.{sector_of}
use Rattle.stripe_row.specs.Rows.{present, reading_of, is_held, held_sector, standing_sector}
use Rattle.stripe_row.specs.sb_specs_the_Members.{Members}
use Rattle.stripe_list.proofs.LossLaws.{lost_then, row_in, rows_by, tolerated_by}
use Rattle.stripe_list.proofs.ListLaws.{answered, asked_more, lacks_by, listed_held, listed_filled, present_same}
use Rattle.stripe_list.proofs.lists.read_one.Goals as goal

pub returns-in_default-clause-answer : goal.returns-in_default-clause-answer
returns-in_default-clause-answer g c = tolerated_by c.args.shape.now c.args.members.now c.read_held.new.members c.in_default.ensures.lost.members c.requires.tolerated

pub returns-in_default-clause-sector : goal.returns-in_default-clause-sector
returns-in_default-clause-sector g c = λ told.
    let before = present (g.B.Bank.given c.args.bank.now) (g.B.Bank.tape c.args.bank.now) in
    listed_held c.args.shape.now c.args.synced (reading_of c.args.members.now) (reading_of c.read_held.new.members) before c.args.x (sector_of c.read_held.new.into c.args.index) c.requires.rows.valid
    (subst (λ (at : Place). held_sector before (reading_of c.args.members.now) at.role at.row ≡ Some (sector_of c.read_held.new.into c.args.index)) c.place-at.ensures.place (c.read_held.ensures.read c.in_default.is told))

pub fill_in-filled-requires-clause-row : goal.fill_in-filled-requires-clause-row
fill_in-filled-requires-clause-row g c =
    let below : c.place-at.result.row < c.args.members.now.newest.size = c.place-at.ensures.row c.args.members.now.newest.size c.requires.rows.multiple c.requires.within in
    row_in (rows_by c.args.members.now _ c.in-Some.ensures.given c.in-Some.ensures.lost.members c.requires.rows)
    (subst (λ (m : Members). c.place-at.result.row < m.newest.size) (sym c.in-Some.ensures.lost.members) below)

pub returns-clause-lost : goal.returns-clause-lost
returns-clause-lost g c = lost_then c.in-Some.ensures.lost c.fill_in-filled.ensures.lost

pub returns-clause-sector : goal.returns-clause-sector
returns-clause-sector g c =
    let m = c.args.members.now in
    let mid = c.read_held.new.members in
    let new = c.fill_in-filled.new.members in
    let before = present (g.B.Bank.given c.args.bank.now) (g.B.Bank.tape c.args.bank.now) in
    let v = sector_of c.fill_in-filled.new.into c.args.index in
    let both = lost_then c.in-Some.ensures.lost c.fill_in-filled.ensures.lost in
    let lacks : is_held (reading_of new) c.place-at.result.role c.place-at.result.row ≡ false = lacks_by c.place-at.result.role c.place-at.result.row mid c.fill_in-filled.result.lost new c.fill_in-filled.ensures.lost.members c.in-Some.ensures.lacks in
    let below : c.place-at.result.row < m.newest.size = c.place-at.ensures.row m.newest.size c.requires.rows.multiple c.requires.within in
    answered c.args.shape.now c.args.synced (reading_of new) (λ role. role ≡ c.place-at.result.role) c.fill_in-filled.result.answer (λ few synced filled told.
    listed_filled c.args.shape.now c.args.synced m new _ before c.args.x v c.requires.rows.valid both.members
    (subst (λ (n : Members). (place c.args.shape.now c.args.x).row < n.newest.size) (sym both.members) (subst (λ (at : Place). at.row < m.newest.size) c.place-at.ensures.place below))
    synced (subst (λ (at : Place). is_held (reading_of new) at.role at.row ≡ false) c.place-at.ensures.place lacks) few
    (subst (λ (at : Place). v ≡ standing_sector before (reading_of new) c.args.shape.now at.row at.role) c.place-at.ensures.place
    (filled told ∙ ap (λ e. standing_sector e (reading_of new) c.args.shape.now c.place-at.result.row c.place-at.result.role) (present_same c.in-Some.ensures.given (c.in-Some.ensures.tape told)))))
    c.fill_in-filled.ensures.answer c.fill_in-filled.ensures.synced c.fill_in-filled.ensures.filled

pub read_held-requires-clause-row : goal.read_held-requires-clause-row
read_held-requires-clause-row g c = row_in c.requires.rows (c.place-at.ensures.row c.args.members.now.newest.size c.requires.rows.multiple c.requires.within)

pub returns-clause-answer : goal.returns-clause-answer
returns-clause-answer g c =
    asked_more c.args.shape.now c.args.synced (reading_of c.fill_in-filled.new.members) (λ role. role ≡ c.place-at.result.role) (λ role. (place c.args.shape.now c.args.x).role ≡ role) c.fill_in-filled.result.answer
    (λ role is. sym (is ∙ ap (λ (p : Place). p.role) c.place-at.ensures.place)) c.fill_in-filled.ensures.answer

pub returns-clause-others : goal.returns-clause-others
returns-clause-others g c = λ i ne. c.fill_in-filled.ensures.others i ne ∙ c.read_held.ensures.others i ne

pub returns-clause-tape : goal.returns-clause-tape
returns-clause-tape g c = λ told. c.fill_in-filled.ensures.tape told ∙ c.read_held.ensures.tape told
