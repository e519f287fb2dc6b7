-- What is read at the end of an update says the shapes that the superblocks said before it, or as they were planned, also where no live slot is left.
use Rattle.std.proofs.Common.{◌≡◌, ◌⊎◌, inl, inr, ⊎_elim, ℕ, ◌+◌, ◌^◌, ◌<◌, ◌≤◌, List, length, take, take_all, le_refl, Some, sym, ◌∙◌, subst, arith}
use Rattle.std.specs.Prelude.{⊤}
use Rattle.std.proofs.lemmas.Bool.{cases_lt}
use Rattle.history_invariant_laws.specs.raid_types_the_Shape.{Shape}
use Rattle.reshape_progress_resync_laws.specs.bank_the_Operation.{Operation}
use Rattle.reshape_progress_resync_laws.specs.bank_Given.{Given}
use Rattle.reshape_progress_resync_laws.specs.bank_Tape.{Contents, disk}
use Rattle.reshape_progress_resync_laws.specs.sb_codec_the_Sb.{Sb}
use Rattle.reshape_progress_resync_laws.specs.sb_specs_the_Change.{Change}
use Rattle.reshape_progress_resync_laws.specs.sb_specs_the_Members.{Members}
use Rattle.reshape_progress_resync_laws.specs.sb_specs_Held.{AreDrawn}
use Rattle.reshape_progress_resync_laws.specs.sb_specs_Reading.{Scope, Reading, reading, shape_of, final_shape}
use Rattle.reshape_progress_resync_laws.specs.sb_specs_Reads.{SaysSame}
use Rattle.reshape_progress_resync_laws.specs.sb_specs_Updating.{planned_newest}
use Rattle.reshape_progress_resync_laws.proofs.sb_update_laws_Laws.{turning-reads}
use Rattle.reshape_progress_resync_laws.specs.stripe_row_Rows.{members_without}
use Rattle.reshape_progress_resync_laws.proofs.crash_views_Alike.{shape-alike, final-alike}
use Rattle.reshape_progress_resync_laws.specs.crash_safety_laws_Changing.{IsChanged, IsFitUpdate}
use Rattle.reshape_progress_resync_laws.specs.crash_safety_laws_Held.{IsHeldBy}
use Rattle.reshape_progress_resync_laws.specs.crash_safety_laws_Rounds.{IsHeldSince}
use Rattle.reshape_progress_resync_laws.specs.crash_safety_laws_Safety.{HasMarkRoom}
use Rattle.reshape_progress_resync_laws.proofs.crash_safety_laws_ChangeViews.{later-says}
use Rattle.reshape_progress_resync_laws.proofs.crash_safety_laws_Started.{Live, Left, ready}
use Rattle.reshape_progress_resync_laws.specs.crash_views_Regions.{AreShapesFit}

-- the superblocks of these contents say this shape
pub record IsShapeRead (scope : Scope) (c : Contents) (shape : Shape) : Type 0 where
  pub found : Reading
  pub is : reading scope c ≡ Some found
  pub says : shape_of found.newest ≡ shape

-- the superblock says the shapes that the former one did, and its size
pub record HasShapesOf (former newest : Sb) : Type 0 where
  pub old : shape_of newest ≡ shape_of former
  pub final : final_shape newest ≡ final_shape former
  pub size : newest.size ≡ former.size

shapes-alike : (former newest : Sb) → SaysSame former newest → HasShapesOf former newest
shapes-alike former newest same = record { old = sym (shape-alike former newest same); final = sym (final-alike former newest same); size = sym same.size }

-- the superblocks of these contents say the shapes of one of these
pub record IsEitherRead (scope : Scope) (c : Contents) (former plan : Sb) : Type 0 where
  pub found : Reading
  pub is : reading scope c ≡ Some found
  pub says : HasShapesOf former found.newest ⊎ HasShapesOf plan found.newest

module _ (scope : Scope) (given : Given) (change : Change) (former : Members) (gone : ℕ) (new : Members) (before after : List Operation)
    (did : IsChanged ⊤ given change (members_without gone former) new before after) (room : HasMarkRoom (members_without gone former) before after)
    (held : IsHeldBy scope former (disk given.start before)) (fit : IsFitUpdate (members_without gone former) change) (shapes : AreShapesFit (planned_newest change.shared former.newest))
    (c : Contents) (drawn : AreDrawn (disk given.start after) c) where
  abbrev Old : Members
  Old = members_without gone former

  longer : length before ≤ length after
  longer = did.update.marks.longer tt

  at-end : AreDrawn (disk given.start (take (length after) after)) c
  at-end = subst (λ (tape : List Operation). AreDrawn (disk given.start tape) c) (sym (take_all (length after) after (le_refl (length after)))) drawn

  -- where nothing was written they say what they said
  unwritten : length after ≤ length before → IsEitherRead scope c former.newest (planned_newest change.shared former.newest)
  unwritten short =
      let same_tape : take (length after) after ≡ before = take_all (length after) after (le_refl (length after)) ∙ sym (take_all (length before) after short) ∙ did.update.marks.earlier tt in
      let read = held.updated.reads c (subst (λ (tape : List Operation). AreDrawn (disk given.start tape) c) same_tape at-end) in
      record { found = read.found; is = read.is; says = inl (shapes-alike former.newest read.found.newest read.same.array) }

  written : length before < length after → IsEitherRead scope c former.newest (planned_newest change.shared former.newest)
  written grew =
      let rise = did.rise tt (inr grew) in
      let small : new.newest.events < 2 ^ 62 = omega (arith, rise, room) in
      let first : former.newest.events + 1 < 2 ^ 62 = (let later = did.newest.events in omega (arith, later, small)) in
      ⊎_elim
      (λ r. record { found = r.reads.found; is = r.reads.is; says = inl (shapes-alike former.newest r.reads.found.newest r.reads.same.array) })
      (λ r. record {
        found = r.reads.found;
        is = r.reads.is;
        says =
            let last = shapes-alike r.newest r.reads.found.newest r.reads.same.array in
            let plan = shapes-alike (planned_newest change.shared former.newest) r.newest (later-says (planned_newest change.shared former.newest) r.newest r.later) in
            inr (record { old = last.old ∙ plan.old; final = last.final ∙ plan.final; size = last.size ∙ plan.size });
      })
      (turning-reads scope held.known (Left scope former gone change (disk given.start before) held fit shapes) Old change Old.lost (Live scope former gone change (disk given.start before) held fit shapes) new.lost new.newest.events
      (disk given.start before) (disk given.start (take (length after) after)) (ready scope former gone change (disk given.start before) held fit shapes first) (λ s is. is) small
      (did.turns.each tt (length after) longer (le_refl (length after))) c at-end)

  pub either-read : IsEitherRead scope c former.newest (planned_newest change.shared former.newest)
  either-read = elim (cases_lt (length before) (length after)) [
    | inl grew ↦ written grew
    | inr short ↦ unwritten short
  ]

-- where the shape was to stay, that one
pub same-shape : (scope : Scope) (c : Contents) (former plan : Sb) → shape_of plan ≡ shape_of former → IsEitherRead scope c former plan → IsShapeRead scope c (shape_of former)
same-shape scope c former plan same read = record {
  found = read.found;
  is = read.is;
  says = elim read.says [ inl says ↦ says.old | inr says ↦ says.old ∙ same ];
}

-- The same from members of which some slots were lost since the superblocks were held.
pub either-read_since : (scope : Scope) (given : Given) (change : Change) (old new : Members) (before after : List Operation) (former : Members) → IsHeldSince scope former old (disk given.start before)
    → IsChanged ⊤ given change old new before after → HasMarkRoom old before after → IsFitUpdate old change → AreShapesFit (planned_newest change.shared old.newest)
    → (c : Contents) → AreDrawn (disk given.start after) c → IsEitherRead scope c old.newest (planned_newest change.shared old.newest)
either-read_since scope given change old new before after former since =
    subst (λ (o : Members). IsChanged ⊤ given change o new before after → HasMarkRoom o before after → IsFitUpdate o change → AreShapesFit (planned_newest change.shared o.newest)
    → (c : Contents) → AreDrawn (disk given.start after) c → IsEitherRead scope c o.newest (planned_newest change.shared o.newest)) (sym since.since)
    (λ did room fit shapes c drawn. either-read scope given change former since.gone new before after did room since.held fit shapes c drawn)
