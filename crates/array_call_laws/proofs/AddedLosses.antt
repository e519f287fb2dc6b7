-- What is lost while a slot is made a spare, and what the history tells of it.
use Rattle.std.proofs.Common.{IsTrue, ◌≡◌, ◌≢◌, ◌⊎◌, inl, inr, ℕ, ◌+◌, ◌*◌, min, ◌^◌, ◌<◌, ◌≤◌, ◌==◌, ◌&&◌, ◌||◌, nat_lt, Bool, true, false, not, List, [], ◌∷◌, ◌++◌, length, Option, Some, None, refl, sym, ◌∙◌, ap, ap₂, subst, arith}
use Rattle.std.specs.Prelude.{IfSome, fold}
use Rattle.std.proofs.lemmas.Bool.{cases_lt}
use Rattle.std.proofs.lemmas.Bool.Decides.{nat_tests}
use Rattle.array_call_specs.specs.raid_types_Shapes.{has_slot}
use Rattle.array_call_specs.specs.raid_types_the_Who.{Who}
use Rattle.array_call_specs.specs.bank_the_Operation.{Operation}
use Rattle.array_call_specs.specs.bank_Given.{Given, NeverFalls, IsFaulted}
use Rattle.array_call_specs.specs.sb_codec_the_Sb.{Sb}
use Rattle.array_call_specs.specs.sb_specs_the_Members.{Members}
use Rattle.array_call_specs.specs.sb_specs_Reading.{shape_of, role_count, role_state, holder, is_clean, is_reshaping}
use Rattle.array_call_specs.specs.sb_specs_Reads.{has_spare}
use Rattle.array_call_specs.proofs.sb_specs_SlotSets.{none_there, none_above}
use Rattle.array_call_specs.specs.stripe_row_Rows.{reading_of, present, is_missing}
use Rattle.array_call_specs.specs.history_the_Entry.{Entry}
use Rattle.array_call_specs.specs.history_the_Event.{Event}
use Rattle.array_call_specs.specs.history_the_Event_TheVariants.{Lost, SpareLost, Added}
use Rattle.array_call_specs.specs.history_the_LostCause_TheVariants.{Fault}
use Rattle.array_call_specs.specs.history_Legal.{told_left, left_after}
use Rattle.array_call_specs.specs.history_Plain.{entries_of}
use Rattle.array_call_specs.specs.history_OneShape.{is_gone_now}
use Rattle.array_call_specs.specs.array_members_the_Work.{Work}
use Rattle.array_call_specs.specs.array_members_Placed.{IsPlaced}
use Rattle.array_call_specs.specs.crash_safety_laws_Steady.{AreUnlost}
use Rattle.array_call_specs.specs.history_append_Losing.{losses_of}
use Rattle.array_call_specs.specs.array_members_Lacking.{HaveFailedSince, AreLostSince}
use Rattle.array_call_specs.specs.crash_safety_laws_Marking.{AreOthersPresent}
use Rattle.array_call_specs.specs.array_members_Moving.{Grows, IsMoved}
use Rattle.array_call_specs.specs.crash_safety_laws_Safety.{IsRisen}
use Rattle.array_call_specs.specs.array_members_Numbers.{IsSpareSb}
use Rattle.array_call_specs.specs.array_members_Status.{resync_left, left_of, vacant_count, spare_count, stripes_of}
use Rattle.array_call_specs.specs.array_members_Rebuilding.{MayHold, AreSparesFree, with_spare}
use Rattle.array_call_specs.specs.Kept.{AreTold}
use Rattle.array_call_specs.proofs.array_members_AddedMembers.{placed-with, free-with, spares-with}
use Rattle.array_call_specs.proofs.history_append_CallLaws.{AreLossEvents, GivesNone, gives-losses, losses-are, told-losses}
use Rattle.array_call_specs.proofs.array_members_HeldRows.{missing-before, vacant-missing, without-before}
use Rattle.array_call_specs.proofs.KeptLaws.{StayPlaced}
use Rattle.array_call_specs.proofs.array_members_LackingLaws.{AreVacant, AreNewlyVacant, lost-since}
use Rattle.array_call_specs.proofs.history_append_LeftLaws.{fold-left}
use Rattle.array_call_specs.proofs.array_members_MarkLaws.{few-below}
use Rattle.array_call_specs.proofs.RecordLaws.{told-more, gone-lately}
use Rattle.array_call_specs.proofs.StepsLeft.{recovery-same, left-moved}
use Rattle.array_call_specs.specs.crash_views_Regions.{DoWithout}
use Rattle.array_call_specs.proofs.sb_specs_ValidFields.{few-roles}
use Rattle.array_call_specs.proofs.DegradedLaws.{count-moved}

-- A slot was made a spare with this superblock, or it was lost in this, and others were lost meanwhile.
pub record IsAddDone (tells : Type 0) (given : Given) (slot : ℕ) (sb : Sb) (old new : Members) (lost : ℕ) (tape tape' : List Operation) (before after : ℕ → ℕ) : Type 0 where
  pub slots : given.slots ≤ 32
  pub placed : IsPlaced given old
  pub unlost : AreUnlost old
  pub free : AreSparesFree given old
  pub there : slot < given.slots
  pub untaken : (role : ℕ) → MayHold old role slot → ⊥
  pub made : IsSpareSb given old.newest slot sb
  pub own : length old.own ≡ 32
  pub moved : IsMoved given (with_spare slot sb old) new
  pub failed : HaveFailedSince (with_spare slot sb old) new lost before after
  pub unspare : has_slot lost slot ≡ true → has_spare new.spares slot ≡ false
  pub grows : Grows tells tape tape'
  pub others : tells → AreOthersPresent (present given tape) (present given tape')
  pub clean : is_clean new.newest ≡ is_clean old.newest
  pub rise : IsRisen tells (with_spare slot sb old) new tape tape'
  pub counts : NeverFalls before after

-- what failed since a later moment failed since this one
pub failed-earlier : {old new : Members} {spares : ℕ} {before mid after : ℕ → ℕ} → NeverFalls before mid → NeverFalls mid after → HaveFailedSince old new spares mid after → HaveFailedSince old new spares before after
failed-earlier {old = old} {new = new} {before = before} {mid = mid} {after = after} rises then failed = record {
  roles = λ role s held. elim (failed.roles role s held) [ inl still ↦ inl still | inr did ↦ inr (first s did) ];
  spares_are = λ s is. first s (failed.spares_are s is);
  were = failed.were;
  fewer = failed.fewer;
  told = failed.told;
}
  where
    first : (s : ℕ) → IsFaulted s mid after → IsFaulted s before after
    first s (inl did) = inl (let more = rises s in omega (arith, did, more))
    first s (inr full) = elim (cases_lt (before s) (mid s)) [
      | inl below ↦ inl (let more = then s in omega (arith, below, more))
      | inr past ↦ inr (let more = rises s in omega (arith, past, more, full))
    ]

-- by what was there before the slot was looked at
pub add-done : {tells : Type 0} {given given' : Given} {slot : ℕ} {sb : Sb} {old new : Members} {lost : ℕ} {tape tape' : List Operation} {before mid after : ℕ → ℕ} → given' ≡ given
    → given.slots ≤ 32 → IsPlaced given old → AreUnlost old → AreSparesFree given old → slot < given.slots → ((role : ℕ) → MayHold old role slot → ⊥) → NeverFalls before mid
    → IsSpareSb given' old.newest slot sb → length old.own ≡ 32 → IsMoved given' (with_spare slot sb old) new → HaveFailedSince (with_spare slot sb old) new lost mid after
    → (has_slot lost slot ≡ true → has_spare new.spares slot ≡ false) → Grows tells tape tape' → (tells → AreOthersPresent (present given' tape) (present given' tape'))
    → is_clean new.newest ≡ is_clean old.newest → IsRisen tells (with_spare slot sb old) new tape tape' → NeverFalls mid after
    → IsAddDone tells given slot sb old new lost tape tape' before after
add-done {tells = tells} {slot = slot} {sb = sb} {old = old} {new = new} {lost = lost} {tape = tape} {tape' = tape'} {before = before} {after = after} same slots placed unlost free there untaken rises made own moved failed
    unspare grows others clean rise counts =
    record {
      slots = slots;
      placed = placed;
      unlost = unlost;
      free = free;
      there = there;
      untaken = untaken;
      made = subst (λ (b : Given). IsSpareSb b old.newest slot sb) same made;
      own = own;
      moved = subst (λ (b : Given). IsMoved b (with_spare slot sb old) new) same moved;
      failed = failed-earlier rises counts failed;
      unspare = unspare;
      grows = grows;
      others = subst (λ (b : Given). tells → AreOthersPresent (present b tape) (present b tape')) same others;
      clean = clean;
      rise = rise;
      counts = λ s. let one = rises s in let two = counts s in omega (arith, one, two);
    }

-- those that are told lost are the lost ones without this
pub record AreOtherLost (slot lost spares : ℕ) : Type 0 where
  pub is : (s : ℕ) → s < 32 → has_slot spares s ≡ (has_slot lost s && not (slot == s))
  pub small : spares < 2 ^ 32

pub others-lost : (slot lost alone spares : ℕ) → ((s : ℕ) → has_slot alone s ≡ (has_slot 0 s || (slot == s))) → ((s : ℕ) → s < 32 → has_slot spares s ≡ (has_slot lost s && not (has_slot alone s))) → spares < 2 ^ 32
    → AreOtherLost slot lost spares
others-lost slot lost alone spares one with small = record {
  is = λ s lt. with s lt ∙ ap (λ (b : Bool). has_slot lost s && not b) (one s ∙ ap (λ (b : Bool). b || (slot == s)) (none_there s));
  small = small;
}

module _ {tells : Type 0} {given : Given} {slot : ℕ} {sb : Sb} {old new : Members} {lost : ℕ} {tape tape' : List Operation} {before after : ℕ → ℕ}
    (did : IsAddDone tells given slot sb old new lost tape tape' before after) where
  unheld : (role : ℕ) → holder (role_state (reading_of old) role) ≡ Some slot → ⊥
  unheld role held = did.untaken role (inl held)

  pub with-placed : IsPlaced given (with_spare slot sb old)
  with-placed = placed-with given old slot sb did.made did.placed did.unlost did.free did.slots did.there did.own unheld

  with-free : AreSparesFree given (with_spare slot sb old)
  with-free = free-with given old slot sb did.made did.placed did.unlost did.free did.slots did.there did.own unheld

  pub free-added : AreSparesFree given new
  free-added = did.moved.free with-free

  few-added : length new.spares ≤ 32
  few-added = did.moved.spares (few-below 32 (λ s. has_spare old.spares s || (slot == s)))

  pub stays-added : is_reshaping old.newest ≡ false → StayPlaced given old new
  stays-added still = record {
    placed = did.moved.placed;
    still = did.moved.reshape.reshaping ∙ still;
    unlost = did.moved.unlost;
    free = free-added;
    spares = few-added;
    shape = did.moved.shape;
    size = did.moved.size;
  }

  pub does-added : DoWithout new → DoWithout old
  does-added does = let before = without-before given (with_spare slot sb old) new did.moved does in record { old = before.old; final = before.final }

  apart-from : (s : ℕ) → has_spare old.spares s ≡ true → s ≢ slot
  apart-from s was same = did.untaken 0 (inr (subst (λ (n : ℕ). has_spare old.spares n ≡ true) same was))

  -- each spare was one, but for this
  pub spares-added : (s : ℕ) → has_spare new.spares s ≡ true → (has_spare old.spares s ≡ true) ⊎ (s ≡ slot)
  spares-added s is = of (nat_lt s 32) (has_spare old.spares s) (slot == s) refl (sym (spares-with old slot sb s) ∙ did.moved.fewer s is)
    where
      same-as : (a b : ℕ) → (a == b) ≡ true → b ≡ a
      same-as a b e = grind (arith, nat_tests, e)

      of : (a p q : Bool) → (slot == s) ≡ q → (a && (p || q)) ≡ true → (p ≡ true) ⊎ (s ≡ slot)
      of true true q is e = inl refl
      of true false true is e = inr (same-as slot s is)
      of true false false is e = absurd (cc)
      of false p q is e = absurd (cc)

  -- one that was is one still, or is among those that are told
  told-spares : (spares : ℕ) → AreOtherLost slot lost spares → (s : ℕ) → has_spare old.spares s ≡ true → (has_spare new.spares s ≡ true) ⊎ (has_slot spares s ≡ true)
  told-spares spares without s was = elim (did.failed.told s (spares-with old slot sb s ∙ all (nat_lt s 32) (has_spare old.spares s) (slot == s) (below s 32 small) was)) [
    | inl is ↦ inl is
    | inr gone ↦ inr (without.is s small ∙ ap₂ (λ (a b : Bool). a && not b) gone (other slot s (apart-from s was)))
  ]
    where
      small : s < 32
      small = (did.free s was).room.small

      below : (a b : ℕ) → a < b → nat_lt a b ≡ true
      below a b lt = grind (arith, nat_tests, lt)

      other : (a b : ℕ) → b ≢ a → (a == b) ≡ false
      other a b apart = grind (arith, nat_tests, apart)

      all : (a p q : Bool) → a ≡ true → p ≡ true → (a && (p || q)) ≡ true
      all true true q one two = refl
      all false p q one two = absurd (cc)
      all true false q one two = absurd (cc)

  told-lost : (spares : ℕ) → AreOtherLost slot lost spares → (s : ℕ) → has_slot spares s ≡ true → IsFaulted s before after
  told-lost spares without s is = elim (cases_lt s 32) [
    | inl small ↦ did.failed.spares_are s (first (has_slot lost s) (slot == s) (sym (without.is s small) ∙ is))
    | inr above ↦ absurd (let e = sym (none_above spares s without.small above) ∙ is in cc)
  ]
    where
      first : (a b : Bool) → (a && not b) ≡ true → a ≡ true
      first true b e = refl
      first false b e = absurd (cc)

  -- and was a spare, before this slot became one
  told-were : (spares : ℕ) → AreOtherLost slot lost spares → (s : ℕ) → has_slot spares s ≡ true → has_spare old.spares s ≡ true
  told-were spares without s is = elim (cases_lt s 32) [
    | inl small ↦ (
        let parts = both (has_slot lost s) (slot == s) (sym (without.is s small) ∙ is) in
        of (nat_lt s 32) (has_spare old.spares s) (slot == s) parts.1 (sym (spares-with old slot sb s) ∙ did.failed.were s parts.0))
    | inr above ↦ absurd (let e = sym (none_above spares s without.small above) ∙ is in cc)
  ]
    where
      both : (a b : Bool) → (a && not b) ≡ true → (a ≡ true) × (b ≡ false)
      both true true e = absurd (cc)
      both true false e = (refl, refl)
      both false b e = absurd (cc)

      of : (a p q : Bool) → q ≡ false → (a && (p || q)) ≡ true → p ≡ true
      of true true q none e = refl
      of true false q none e = sym none ∙ e
      of false p q none e = absurd (cc)

  module _ (disks was roles spares : ℕ) (same : disks ≡ role_count old.newest) (vacant : AreVacant old disks was) (newly : AreNewlyVacant new disks was roles) (without : AreOtherLost slot lost spares) where
    all-since : AreLostSince (with_spare slot sb old) new roles lost before after
    all-since = lost-since given (with_spare slot sb old) new disks was roles lost before after with-placed did.moved did.failed same vacant newly

    pub since-added : AreLostSince old new roles spares before after
    since-added = record { vacant = all-since.vacant; gone = all-since.gone; held = all-since.held; failed = told-lost spares without; were = told-were spares without; told = told-spares spares without }

  module _ (roles spares : ℕ) (since : AreLostSince old new roles spares before after) where
    -- behind the entries of the losses each missing role is told gone
    pub told-added : (entries : List Entry) (who : Who) (end : ℕ) (tail : List Event) → AreTold old entries → GivesNone (entries_of who end tail) → AreTold new (entries ++ entries_of who end (losses_of roles spares ++ tail))
    told-added entries who end tail told none role lt missing = elim (missing-before did.moved role missing) [
      | inl was ↦ former was
      | inr vacant ↦ elim (since.vacant role lt vacant) [
        | inl was ↦ former (vacant-missing (reading_of old) role was)
        | inr has ↦ gone-lately role entries (entries_of who end (losses_of roles spares ++ tail)) gives
            (told-losses role roles spares who end tail (let few = few-roles new.newest did.moved.placed.fit.valid in omega (arith, lt, few)) has)
      ]
    ]
      where
        gives : GivesNone (entries_of who end (losses_of roles spares ++ tail))
        gives = gives-losses who end (losses_of roles spares) tail (losses-are roles spares) none

        former : is_missing (reading_of old) role ≡ true → IsTrue (is_gone_now (entries ++ entries_of who end (losses_of roles spares ++ tail)) role)
        former was = told-more old entries (entries_of who end (losses_of roles spares ++ tail)) gives told role (subst (λ (n : ℕ). role < n) (count-moved did.moved) lt) was

    -- Where it was lost itself, as many steps are left if no loss is told.
    abbrev lacks : Members
    lacks = record (with_spare slot sb old) { spares = old.spares }

    left-lacks : (work : Work) → left_of work lacks ≡ left_of work old
    left-lacks work =
        ap₂ (λ (a b : ℕ). a + b + min (vacant_count old) (spare_count old) * (stripes_of old + 2)) (resync-as work.resync)
        (recovery-same (shape_of old.newest).disks work work lacks old (λ role lt. refl))
      where
        resync-as : (o : Option ℕ) → resync_left o lacks ≡ resync_left o old
        resync-as None = refl
        resync-as (Some mended) = refl

    moved-lacks : has_spare new.spares slot ≡ false → IsMoved given lacks new
    moved-lacks none = record {
      placed = did.moved.placed;
      unlost = did.moved.unlost;
      held = did.moved.held;
      states = did.moved.states;
      rows = did.moved.rows;
      spares = λ few. few-added;
      fewer = λ s is. elim (spares-added s is) [ inl was ↦ was | inr same ↦ absurd (let e = sym (subst (λ (n : ℕ). has_spare new.spares n ≡ true) same is) ∙ none in cc) ];
      free = λ free. free-added;
      reshape = did.moved.reshape;
      shape = did.moved.shape;
      size = did.moved.size;
      offsets = did.moved.offsets;
      whole = did.moved.whole;
      same = did.moved.same;
    }

    pub left-refused : (work : Work) → has_spare new.spares slot ≡ false → losses_of roles spares ≡ [] → left_of work new ≡ left_of work old
    left-refused work none quiet =
        left-moved (moved-lacks none) work roles spares before after (record { vacant = since.vacant; gone = since.gone; held = since.held; failed = since.failed; were = since.were; told = since.told }) quiet ∙ left-lacks work

-- the steps left are as many where other numbers are known
pub left-carried : (work : Work) (carried : List ℕ) (m : Members) → left_of (record work { carried = carried }) m ≡ left_of work m
left-carried work carried m = ap (λ (n : ℕ). resync_left work.resync m + n + min (vacant_count m) (spare_count m) * (stripes_of m + 2)) (recovery-same (shape_of m.newest).disks (record work { carried = carried }) work m m (λ role lt. refl))

-- behind an entry that a slot was added they aren't told
pub left-added : (steps : ℕ) (entries : List Entry) (who : Who) (end slot : ℕ) (xs : List Event) → AreLossEvents xs → IfSome (told_left (entries ++ entries_of who end (xs ++ Added slot ∷ []))) (λ n. n ≡ steps)
left-added steps entries who end slot xs are =
    subst (λ (o : Option ℕ). IfSome o (λ n. n ≡ steps)) (sym (fold-left None entries (entries_of who end (xs ++ Added slot ∷ [])) ∙ none (told_left entries) xs are)) tt
  where
    none : (left : Option ℕ) (xs : List Event) → AreLossEvents xs → fold (λ left e. left_after left e.event) left (entries_of who end (xs ++ Added slot ∷ [])) ≡ None
    none left [] are = refl
    none left (Lost role Fault ∷ xs) are = none None xs are
    none left (SpareLost s ∷ xs) are = none None xs are
    none left (event ∷ xs) are = absurd are
