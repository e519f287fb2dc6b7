use Rattle.std.proofs.Common.{◌≡◌, ℕ, ◌<◌, ◌≤◌, Bool, true, false, not, ◌&&◌, List, length, inl, inr, refl, subst, sym, ◌∙◌, arith}
use Rattle.std.proofs.lemmas.Bool.{cases_lt}
use Rattle.reshape_window_rows.specs.raid_types_Shapes.{has_slot}
use Rattle.reshape_window_rows.specs.raid_types_Sectors.{Sector}
use Rattle.reshape_window_rows.specs.bank_Given.{Given}
use Rattle.reshape_window_rows.specs.bank_Tape.{IsIn, disk}
use Rattle.reshape_window_rows.proofs.bank_Laws.{kept_in}
use Rattle.reshape_window_rows.specs.sb_specs_the_Members.{Members}
use Rattle.reshape_window_rows.specs.sb_specs_Outcome.{live_set, is_left}
use Rattle.reshape_window_rows.proofs.sb_specs_SlotSets.{none_above}
use Rattle.reshape_window_rows.specs.stripe_row_Rows.{reading_of}
use Rattle.reshape_window_rows.specs.history_Sound.{OpensFit}
use Rattle.reshape_window_rows.specs.crash_views_Windows.{moved_past}
use Rattle.reshape_window_rows.specs.crash_safety_laws_Kinds.{recording}
use Rattle.reshape_window_rows.proofs.crash_safety_laws_ChangeSafe.{told-changed, one-stretch}
use Rattle.reshape_window_rows.proofs.crash_safety_laws_Kept.{give_of-same}
use Rattle.reshape_window_rows.proofs.crash_safety_laws_KeptSafe.{kept-safe}
use Rattle.reshape_window_rows.specs.array_members_Placed.{IsPlaced, AreLess}
use Rattle.reshape_window_rows.proofs.array_members_Fit.{few}
use Rattle.reshape_window_rows.proofs.array_members_LackingLaws.{since-failed, holders-updated}
use Rattle.reshape_window_rows.proofs.array_members_MarkLaws.{few-planned}
use Rattle.reshape_window_rows.proofs.array_members_MarkedLaws.{grows-marks, others-updated, failed-marked}
use Rattle.reshape_window_rows.proofs.array_members_MovedLaws.{moved-less}
use Rattle.reshape_window_rows.proofs.array_members_PlacedLaws.{placed-less, less-unlost}
use Rattle.reshape_window_rows.proofs.sb_safe_updates_SparesLaws.{spare-left, spare-stays, free-told, told-were}
use Rattle.reshape_window_steps.proofs.PastLaws.{past-placed, past-less, past-clean, since-past}
use Rattle.reshape_window_steps.proofs.recording.put_position.Given.{Over}
use Rattle.reshape_window_steps.proofs.recording.put_position.Goals.{After-without}
use Rattle.reshape_window_steps.proofs.recording.put_position.Goals as goal

both : (a b : Bool) → (a && b) ≡ true → (a ≡ true) × (b ≡ true)
both true b e = (refl, e)
both false b e = absurd (cc)

flip : (b : Bool) → not b ≡ true → b ≡ false
flip true e = absurd (cc)
flip false e = refl

off-on : (b : Bool) → b ≡ false → b ≡ true → ⊥
off-on b off on = absurd (cc)

pub holders-held-requires-clause-small : goal.holders-held-requires-clause-small
holders-held-requires-clause-small g c role slot held = (c.requires.stands.placed.holders role slot held).small

pub holders-held-requires-clause-few : goal.holders-held-requires-clause-few
holders-held-requires-clause-few g c = let most = few (g.B.Bank.given c.args.bank.now) c.args.members.now c.requires.stands.placed in omega (arith, most)

pub record_position-lost-requires-clause-few : goal.record_position-lost-requires-clause-few
record_position-lost-requires-clause-few g c = few (g.B.Bank.given c.args.bank.now) c.args.members.now c.requires.stands.placed

module _ (g : Over) (c : After-without g) where
  abbrev given : Given
  given = g.B.Bank.given c.args.bank.now

  abbrev old : Members
  old = c.args.members.now

  abbrev new : Members
  new = c.record_position-lost.new.members

  less : AreLess new.lost (moved_past c.args.span.now old) new
  less =
      let did = c.record_position-lost.ensures in
      past-less given c.args.span.now old new c.requires.stands.placed did.newest (is_left (live_set old (recording c.args.span.now old)) new.lost) did.recorded.own did.recorded.roles

  was : IsPlaced given (moved_past c.args.span.now old)
  was = past-placed given old c.args.span.now c.requires.stands.placed c.requires.next

pub returns-clause-moved : goal.returns-clause-moved
returns-clause-moved g c =
    let did = c.record_position-lost.ensures in
    moved-less (given g c) (new g c).lost (moved_past c.args.span.now (old g c)) (new g c) (less g c) (was g c)
    (placed-less (given g c) (new g c).lost (moved_past c.args.span.now (old g c)) (new g c) (less g c) (was g c) did.recorded.alive)
    (less-unlost (new g c).lost (moved_past c.args.span.now (old g c)) (new g c) (less g c) refl)
    (λ few. subst (λ (slots : List ℕ). length slots ≤ 32) (sym did.recorded.spares) (few-planned (old g c) (recording c.args.span.now (old g c)) (new g c).lost))
    (λ slot has. (spare-left (old g c) false (new g c).lost (new g c).spares did.recorded.spares slot has).0)
    (λ slot has free. (spare-left (old g c) false (new g c).lost (new g c).spares did.recorded.spares slot has).1)

pub returns-clause-failed : goal.returns-clause-failed
returns-clause-failed g c =
    let did = c.record_position-lost.ensures in
    let f0 = g.B.Bank.faults_of c.args.bank.now in
    let f1 = g.B.Bank.faults_of c.record_position-lost.new.bank in
    since-past (old g c) (new g c) c.args.span.now c.without.result f0 f1
    (since-failed (moved_past c.args.span.now (old g c)) (new g c) c.without.result f0 f1
    (failed-marked (moved_past c.args.span.now (old g c)) (new g c) (live_set (old g c) (recording c.args.span.now (old g c))) c.without.result f0 f1 c.requires.stands.unlost (less g c) did.losses
    (λ slot has.
    let below : slot < 32 = small slot has in
    let parts = both (has_slot c.record_position-lost.result slot) (not (has_slot c.holders-held.result slot)) (sym (c.without.ensures slot below) ∙ has) in
    let lost = both (has_slot (new g c).lost slot) (not (has_slot (old g c).lost slot)) (sym (did.result slot) ∙ parts.0) in
    (lost.0, flip (has_slot (old g c).lost slot) lost.1)))
    (λ slot has.
    let below : slot < 32 = small slot has in
    let parts = both (has_slot c.record_position-lost.result slot) (not (has_slot c.holders-held.result slot)) (sym (c.without.ensures slot below) ∙ has) in
    let lost = both (has_slot (new g c).lost slot) (not (has_slot (old g c).lost slot)) (sym (did.result slot) ∙ parts.0) in
    told-were (old g c) (recording c.args.span.now (old g c)) c.holders-held.result slot refl c.holders-held.ensures
    (did.losses.live slot lost.0 (flip (has_slot (old g c).lost slot) lost.1)) (flip (has_slot c.holders-held.result slot) parts.1))
    (λ slot has. (spare-left (old g c) false (new g c).lost (new g c).spares did.recorded.spares slot has).0)
    (λ slot has.
    let free = c.requires.stands.free slot has in
    elim (free-told (old g c) c.holders-held.result (new g c).lost c.record_position-lost.result c.without.result slot free c.holders-held.ensures (did.result slot) (c.without.ensures slot free.room.small)) [
      | inl kept ↦ inl (spare-stays (old g c) false (new g c).lost (new g c).spares did.recorded.spares slot free.room.small kept has)
      | inr told ↦ inr told
    ]))
  where
    small : (slot : ℕ) → has_slot c.without.result slot ≡ true → slot < 32
    small slot has = elim (cases_lt slot 32) [
      | inl below ↦ below
      | inr above ↦ absurd (off-on (has_slot c.without.result slot) (none_above c.without.result slot (omega arith) above) has)
    ]

pub returns-clause-bank : goal.returns-clause-bank
returns-clause-bank g c = record {
  same = c.record_position-lost.ensures.given;
  grows = grows-marks c.record_position-lost.ensures.recorded.update.marks;
  counts = c.record_position-lost.ensures.counts;
}

pub returns-clause-others : goal.returns-clause-others
returns-clause-others g c = λ told. others-updated (g.B.Bank.given c.args.bank.now) c.record_position-lost.ensures.recorded.update told

pub returns-clause-flushed : goal.returns-clause-flushed
returns-clause-flushed g c = λ told flushed. holders-updated (g.B.Bank.given c.args.bank.now) (reading_of c.args.members.now) c.record_position-lost.ensures.recorded.update told flushed

pub returns-clause-fewer : goal.returns-clause-fewer
returns-clause-fewer g c = λ told s k v other may.
    let start = (g.B.Bank.given c.args.bank.now).start in
    kept_in (disk start (g.B.Bank.tape c.args.bank.now) s k) (disk start (g.B.Bank.tape c.record_position-lost.new.bank) s k) v
    ((c.record_position-lost.ensures.recorded.update.end told).touched.elsewhere s k other) may

-- a slot that isn't live in the update isn't written

pub returns-clause-unused : goal.returns-clause-unused
returns-clause-unused g c = λ told s k v unused may.
    subst (λ (l : List Sector). IsIn l v) ((c.record_position-lost.ensures.recorded.update.end told).touched.others s k unused) may

pub returns-clause-clean : goal.returns-clause-clean
returns-clause-clean g c =
    let did = c.record_position-lost.ensures in
    past-clean (given g c) c.args.span.now (old g c) (new g c) c.requires.stands.placed did.newest (is_left (live_set (old g c) (recording c.args.span.now (old g c))) (new g c).lost) did.recorded.own did.recorded.roles

pub returns-clause-safe : goal.returns-clause-safe
returns-clause-safe g c = λ tell world told room gone right safe.
    let m = c.args.members.now in
    let n = c.record_position-lost.new.members in
    let given = g.B.Bank.given c.args.bank.now in
    let tape0 = g.B.Bank.tape c.args.bank.now in
    let tape1 = g.B.Bank.tape c.record_position-lost.new.bank in
    one-stretch (OpensFit world) world.scope given told n tape0 tape1
    (kept-safe (OpensFit world) world.scope given told told (recording c.args.span.now m) m n tape0 tape1 (told-changed tell c.record_position-lost.ensures.recorded)
    (record { none = refl; size = refl; count = refl; same = λ s. give_of-same 32 s }) room gone (λ slot number is. is) right safe)
