-- A slot that may be made a spare, and one that may not.
use Rattle.std.proofs.Common.{◌≡◌, ◌⊎◌, inl, inr, ℕ, zero, suc, ◌+◌, ◌^◌, ◌<◌, ◌≤◌, Bool, true, false, not, ◌&&◌, nat_le, length, slice_index, Option, Some, None, is_some, unwrap_or, List, [], ◌∷◌, ◌++◌, drop, refl, sym, ◌∙◌, ap, subst, arith}
use Rattle.std.specs.Prelude.{IsTrue, MatchOption}
use Rattle.std.proofs.lemmas.Bool.{cases_lt}
use Rattle.std.proofs.lemmas.Bool.Decides.{nat_tests}
use Rattle.std.proofs.lemmas.Slice.Eq.{bytes_eq-Decides}
use Rattle.array_call_specs.specs.sb_codec_the_Sb.{Sb}
use Rattle.array_call_specs.specs.raid_types_Shapes.{is_valid_shape}
use Rattle.array_call_specs.specs.raid_types_Sectors.{Sector}
use Rattle.array_call_specs.specs.raid_types_the_Who.{Who}
use Rattle.array_call_specs.specs.sb_specs_Held.{IsSecondHalf}
use Rattle.array_call_specs.specs.raid_types_the_Refusal.{Refusal}
use Rattle.array_call_specs.specs.raid_types_the_Refusal_TheVariants.{PastEnd, TooManyMissing, NoSuchSlot, SlotTaken, SlotTooSmall, SlotFault}
use Rattle.array_call_specs.specs.bank_Given.{Given}
use Rattle.array_call_specs.specs.sb_specs_the_Members.{Members}
use Rattle.array_call_specs.specs.raid_types_Shapes.{has_slot}
use Rattle.array_call_specs.specs.sb_specs_Reads.{has_spare}
use Rattle.array_call_specs.specs.sb_specs_Update.{own_in}
use Rattle.array_call_specs.specs.sb_specs_Reading.{Scope, is_seen, is_backup, shape_of, role_state, holder, data_offset_of, entry_of}
use Rattle.array_call_specs.specs.stripe_row_Rows.{reading_of}
use Rattle.array_call_specs.specs.Calls.{IsTaken, IsFirstOffset, IsUnaddable, IsAddedAs, IsReplied, IsRefusedFor}
use Rattle.array_call_specs.specs.array_members_Rebuilding.{Held}
use Rattle.array_call_specs.specs.array_members_Lacking.{AreTooMany}
use Rattle.array_call_specs.specs.array_members_Placed.{is_unassigned, IsPlaced}
use Rattle.array_call_specs.specs.array_members_Numbers.{bears, is_carried, free_number, spare_sb, IsSpareSb, IsOfScope, AreSecondEntries}
use Rattle.array_call_specs.specs.Kept.{scope_in}
use Rattle.array_call_specs.specs.array_members_the_Work.{Work}
use Rattle.array_call_specs.specs.array_members_Rebuilding.{IfOwn}
use Rattle.array_call_specs.specs.history_the_Entry.{Entry}
use Rattle.array_call_specs.specs.history_the_Event.{Event}
use Rattle.array_call_specs.specs.history_the_Event_TheVariants.{Added, Refused}
use Rattle.array_call_specs.specs.history_the_Request_TheVariants.{Add as AsksAdd}
use Rattle.array_call_specs.specs.history_Flat.{next_number}
use Rattle.array_call_specs.specs.history_OneShape.{OneShapeAnswers}
use Rattle.array_call_specs.specs.history_Plain.{entries_of}
use Rattle.array_call_specs.specs.history_append_Losing.{losses_of}
use Rattle.array_call_specs.proofs.history_append_CallLaws.{AreLossEvents, losses-are, torn-losses}
use Rattle.array_call_specs.proofs.ReplyLaws.{inside-losses, none-inside, replied}
use Rattle.array_call_specs.proofs.array_members_LiveLeft.{some-held}
use Rattle.array_call_specs.proofs.array_members_Searching.{least-found, both-parts}
use Rattle.array_call_specs.specs.crash_views_Regions.{DoWithout}
use Rattle.array_call_specs.proofs.history_append_BearerLaws.{uncarried}
use Rattle.array_call_specs.proofs.array_members_Fit.{valid}
use Rattle.array_call_specs.proofs.array_members_LackingLaws.{does-without, never-both}

-- ---- the lowest role that a slot holds

pub record IsLowest (m : Members) : Type 0 where
  pub role : ℕ
  pub slot : ℕ
  pub held : Held m role slot
  pub none : (lower : ℕ) → lower < role → is_unassigned (reading_of m) lower ≡ true

lowest-below : (m : Members) (n : ℕ) → ((role : ℕ) → role < n → is_unassigned (reading_of m) role ≡ true) ⊎ IsLowest m
lowest-below m zero = inl (λ role lt. absurd (omega (arith, lt)))
lowest-below m (suc n) = by (lowest-below m n)
  where
    at : ((role : ℕ) → role < n → is_unassigned (reading_of m) role ≡ true) → (o : Option ℕ) → holder (role_state (reading_of m) n) ≡ o
        → ((role : ℕ) → role < suc n → is_unassigned (reading_of m) role ≡ true) ⊎ IsLowest m
    at none (Some slot) is = inr (record { role = n; slot = slot; held = is; none = none })
    at none None is = inl (λ role lt. elim (cases_lt role n) [
      | inl below ↦ none role below
      | inr past ↦ let same : role ≡ n = omega (arith, lt, past) in ap (λ (r : ℕ). is_unassigned (reading_of m) r) same ∙ ap (λ (o : Option ℕ). not (is_some o)) is
    ])

    by : ((role : ℕ) → role < n → is_unassigned (reading_of m) role ≡ true) ⊎ IsLowest m → ((role : ℕ) → role < suc n → is_unassigned (reading_of m) role ≡ true) ⊎ IsLowest m
    by (inr found) = inr found
    by (inl none) = at none (holder (role_state (reading_of m) n)) refl

-- an array that does without those that are missing has one
pub lowest : (m : Members) → IsTrue (is_valid_shape (shape_of m.newest)) → DoWithout m → IsLowest m
lowest m valid does = by (some-held m valid does.old)
  where
    by : (role : ℕ) × (slot : ℕ) × Held m role slot → IsLowest m
    by held = elim (lowest-below m (held.0 + 1)) [
      | inl none ↦ absurd (let vacant = none held.0 (omega arith) in let e = sym (ap (λ (o : Option ℕ). not (is_some o)) held.2) ∙ vacant in cc)
      | inr found ↦ found
    ]

-- ---- why it may not

pub many-of : (m : Members) (refusal : Refusal) → IsRefusedFor 0 0 AreTooMany m m refusal → AreTooMany m refusal
many-of m (PastEnd told) w = absurd (omega (arith, w.1))
many-of m refusal w = w.1

pub does-of : (m : Members) → ((refusal : Refusal) → AreTooMany m refusal → ⊥) → DoWithout m
does-of m none = does-without m none

module _ (given : Given) (backup : Option ℕ) (slot : ℕ) (m : Members) (placed : IsPlaced given m) where
  pub unaddable-many : (refusal : Refusal) → slot < given.slots → (IsTaken backup m slot → ⊥) → AreTooMany m refusal → IsUnaddable given backup slot m refusal
  unaddable-many refusal there free (inl many) = subst (λ (r : Refusal). AreTooMany m r → IsUnaddable given backup slot m r) (sym many.told) (λ w. (there, free, w)) (inl many)
  unaddable-many refusal there free (inr many) = subst (λ (r : Refusal). AreTooMany m r → IsUnaddable given backup slot m r) (sym many.1.told) (λ w. (there, free, w)) (inr many)

  -- the offset of the lowest role's slot, behind which its rows lie
  pub offset-of : DoWithout m → (offset : ℕ) → IsFirstOffset m offset → (10 ≤ offset) × (offset + m.newest.size < 2 ^ 64)
  offset-of does offset first = by (lowest m (valid given m placed) does)
    where
      by : IsLowest m → (10 ≤ offset) × (offset + m.newest.size < 2 ^ 64)
      by low =
          let is = first low.role low.slot low.held low.none in
          let room = placed.holders low.role low.slot low.held in
          let behind = placed.behind low.role low.slot low.held in
          (omega (arith, is, behind), omega (arith, is, room.within, room.short))

  -- which is there
  pub offset-there : DoWithout m → (offset : ℕ) × IsFirstOffset m offset
  offset-there does = of (lowest m (valid given m placed) does)
    where
      vacant-none : (role s : ℕ) → Held m role s → is_unassigned (reading_of m) role ≡ true → ⊥
      vacant-none role s held vacant = let e = sym (ap (λ (o : Option ℕ). not (is_some o)) held) ∙ vacant in cc

      of : IsLowest m → (offset : ℕ) × IsFirstOffset m offset
      of low = (data_offset_of (reading_of m) low.slot, first)
        where
          first : IsFirstOffset m (data_offset_of (reading_of m) low.slot)
          first role s held none = elim (cases_lt role low.role) [
            | inl below ↦ absurd (vacant-none role s held (low.none role below))
            | inr past ↦ elim (cases_lt low.role role) [
              | inl above ↦ absurd (vacant-none low.role low.slot low.held (none low.role above))
              | inr same ↦
                  let is : low.role ≡ role = omega (arith, past, same) in
                  let both : Some low.slot ≡ Some s = sym low.held ∙ ap (λ (r : ℕ). holder (role_state (reading_of m) r)) is ∙ held in
                  ap (λ (o : Option ℕ). data_offset_of (reading_of m) (unwrap_or o 0)) both
            ]
          ]

  -- there is one alone
  pub offset-one : DoWithout m → (a b : ℕ) → IsFirstOffset m a → IsFirstOffset m b → a ≡ b
  offset-one does a b one two = let low = lowest m (valid given m placed) does in one low.role low.slot low.held low.none ∙ sym (two low.role low.slot low.held low.none)

  -- where nothing speaks against it
  pub unaddable-none : slot < given.slots → (IsTaken backup m slot → ⊥) → DoWithout m → (offset : ℕ) → IsFirstOffset m offset → offset + m.newest.size ≤ given.sectors slot
      → (refusal : Refusal) → IsUnaddable given backup slot m refusal → ⊥
  unaddable-none there free does offset first fits (NoSuchSlot asked) w = absurd (let past = w.1 in omega (arith, past, there))
  unaddable-none there free does offset first fits (SlotTaken taken) w = free w.2
  unaddable-none there free does offset first fits (TooManyMissing count most) w = never-both m (TooManyMissing count most) does w.2
  unaddable-none there free does offset first fits (SlotTooSmall have want) w =
      let same = offset-one does w.5 offset w.6 first in
      let want_is = w.7 in
      let have_is = w.3 in
      let short = w.4 in
      absurd (omega (arith, same, want_is, have_is, short, fits))
  unaddable-none there free does offset first fits refusal w = w

  -- and so in turn
  module _ (addable : (refusal : Refusal) → IsUnaddable given backup slot m refusal → ⊥) where
    pub slot-there : slot < given.slots
    slot-there = elim (cases_lt slot given.slots) [ inl below ↦ below | inr past ↦ absurd (addable (NoSuchSlot slot) (refl, past)) ]

    pub slot-free : IsTaken backup m slot → ⊥
    slot-free taken = addable (SlotTaken slot) (refl, slot-there, taken)

    pub slot-does : DoWithout m
    slot-does = does-of m (λ refusal many. addable refusal (unaddable-many refusal slot-there slot-free many))

    pub slot-unspare : has_spare m.spares slot ≡ false
    slot-unspare = of (has_spare m.spares slot) refl
      where
        of : (b : Bool) → has_spare m.spares slot ≡ b → b ≡ false
        of false is = refl
        of true is = absurd (slot-free (inr (0, inr is)))

    pub slot-fits : (offset : ℕ) → IsFirstOffset m offset → offset + m.newest.size ≤ given.sectors slot
    slot-fits offset first = elim (cases_lt (given.sectors slot) (offset + m.newest.size)) [
      | inl short ↦ absurd (addable (SlotTooSmall (given.sectors slot) (offset + m.newest.size)) (slot-there, slot-free, slot-does, refl, short, offset, first, refl))
      | inr fits ↦ fits
    ]

    -- it has room for a superblock
    pub slot-room : 10 ≤ given.sectors slot
    slot-room =
        let offset = offset-there slot-does in
        let behind = (offset-of slot-does offset.0 offset.1).0 in
        let fits = slot-fits offset.0 offset.1 in
        omega (arith, behind, fits)

    -- and is looked at, where it is sound
    pub slot-seen : (scope : Scope) (faults : ℕ → ℕ) → scope.backup ≡ backup → ((s : ℕ) → s < given.slots → has_slot scope.given s ≡ false → 0 < faults s) → faults slot ≡ 0 → is_seen scope slot ≡ true
    slot-seen scope faults same failed sound = of (has_slot scope.given slot) (is_backup scope.backup slot) refl refl
      where
        of : (a b : Bool) → has_slot scope.given slot ≡ a → is_backup scope.backup slot ≡ b → (a && not b) ≡ true
        of true false given_is is = refl
        of true true given_is is = absurd (slot-free (inl (subst (λ (o : Option ℕ). is_backup o slot ≡ true) same is)))
        of false b given_is is = absurd (let above = failed slot slot-there given_is in omega (arith, above, sound))

    -- for the array
    pub slot-of-scope : (uuid : List ℕ) (slots : ℕ) (sb : Sb) (faults : ℕ → ℕ) → ((s : ℕ) → s < given.slots → has_slot slots s ≡ false → 0 < faults s) → faults slot ≡ 0 → sb.set_uuid ≡ uuid
        → IsOfScope (scope_in given uuid slots backup) given slot sb
    slot-of-scope uuid slots sb faults failed sound same = record {
      sizes_are = refl;
      seen = slot-seen (scope_in given uuid slots backup) faults refl failed sound;
      array = (bytes_eq-Decides sb.set_uuid uuid).1 same;
    }

-- ---- the number that is free

pub is-free : (newest : Sb) (work : Work) (number : ℕ) → free_number newest work ≡ Some number → (number < 128) × ((slot : ℕ) → bears work slot number ≡ false) × (0xfffe ≤ entry_of newest number)
is-free newest work number is =
    let found = least-found 128 (λ (n : ℕ). not (is_carried work n) && nat_le 0xfffe (entry_of newest n)) number is in
    let parts = both-parts (not (is_carried work number)) (nat_le 0xfffe (entry_of newest number)) found.1 in
    (found.0, uncarried work number found.0 (falsely (is_carried work number) parts.0), at-most 0xfffe (entry_of newest number) parts.1)
  where
    falsely : (b : Bool) → not b ≡ true → b ≡ false
    falsely false e = refl
    falsely true e = absurd (cc)

    at-most : (a b : ℕ) → nat_le a b ≡ true → a ≤ b
    at-most a b e = grind (arith, nat_tests)

-- the superblock of the spare
pub spare-made : (given : Given) (slot : ℕ) (m : Members) (placed : IsPlaced given m) → DoWithout m → (uuid : List ℕ) (number offset sectors : ℕ) (second : List ℕ) (sb : Sb)
    → number < 128 → 0xfffe ≤ entry_of m.newest number → IsFirstOffset m offset → offset + m.newest.size ≤ given.sectors slot → sectors ≡ given.sectors slot → sectors < 2 ^ 64
    → length second ≡ 256 → ((k : ℕ) → slice_index second k < 65536) → sb ≡ spare_sb m.newest uuid number offset sectors second → IsSpareSb given m.newest slot sb
spare-made given slot m placed does uuid number offset sectors second sb few free first fits sectors_are short long small is = record {
  uuid = uuid;
  number = number;
  offset = offset;
  second = second;
  is = subst (λ (n : ℕ). sb ≡ spare_sb m.newest uuid number offset n second) sectors_are is;
  few = few;
  free = free;
  long = long;
  small = small;
  behind = (offset-of given None slot m placed does offset first).0;
  within = fits;
  short = subst (λ (n : ℕ). n < 2 ^ 64) sectors_are short;
}

-- ---- what it is looked at for

-- the entries that were read stand in its second half
pub second-half : (sb : Sb) (second : List ℕ) (sector : Sector) → drop 128 sb.dev_roles ≡ second → AreSecondEntries second sector → IsSecondHalf sb sector
second-half sb second sector same are = record { long = are.long; bytes = are.bytes; entries = are.entries_are ∙ sym same }

-- ---- what it answers

pub added_reply : (size : ℕ) (who : Who) (old new : List Entry) (end slot roles spares : ℕ) → new ≡ old ++ entries_of who end (losses_of roles spares ++ Added slot ∷ [])
    → who.number ≡ next_number who.caller old → IsReplied size (AsksAdd slot) who old new (Added slot)
added_reply size who old new end slot roles spares is number =
    replied size (AsksAdd slot) who old new end (losses_of roles spares) (Added slot) is number (λ call. refl) (inside-losses who end (losses_of roles spares) (losses-are roles spares)) (torn-losses (AsksAdd slot) who end (losses_of roles spares) (losses-are roles spares))

pub faulted_reply : (size : ℕ) (who : Who) (old new : List Entry) (end slot : ℕ) (xs : List Event) → AreLossEvents xs → new ≡ old ++ entries_of who end (xs ++ Refused (SlotFault slot) ∷ [])
    → who.number ≡ next_number who.caller old → IsReplied size (AsksAdd slot) who old new (Refused (SlotFault slot))
faulted_reply size who old new end slot xs are is number =
    replied size (AsksAdd slot) who old new end xs (Refused (SlotFault slot)) is number (λ call. refl) (inside-losses who end xs are) (torn-losses (AsksAdd slot) who end xs are)

pub unadded_reply : (given : Given) (backup : Option ℕ) (m : Members) (size : ℕ) (who : Who) (old new : List Entry) (end slot : ℕ) (refusal : Refusal) → IsUnaddable given backup slot m refusal
    → new ≡ old ++ entries_of who end (Refused refusal ∷ []) → who.number ≡ next_number who.caller old → IsReplied size (AsksAdd slot) who old new (Refused refusal)
unadded_reply given backup m size who old new end slot refusal why is number = replied size (AsksAdd slot) who old new end [] (Refused refusal) is number (λ call. fits call refusal why) none-inside tt
  where
    fits : (call : List Entry) (refusal : Refusal) → IsUnaddable given backup slot m refusal → OneShapeAnswers size (old ++ entries_of who end []) call (AsksAdd slot) (Refused refusal)
    fits call (NoSuchSlot asked) w = w.0
    fits call (SlotTaken taken) w = w.0
    fits call (TooManyMissing count most) w = tt
    fits call (SlotTooSmall have want) w = w.4
    fits call refusal w = absurd w

-- what is kept of it has its number and its offset
pub stored-as : (new old : Members) (work : Work) (slot number : ℕ) (sb : Sb) → free_number old.newest work ≡ Some number → sb.dev_number ≡ number → IsFirstOffset old sb.data_offset
    → IfOwn new slot (λ own. (own.dev_number ≡ sb.dev_number) × (own.data_offset ≡ sb.data_offset)) → IsAddedAs old work new slot
stored-as new old work slot number sb free is first kept = of (own_in new.own slot) kept
  where
    of : (o : Option Sb) → MatchOption o ⊥ (λ own. (own.dev_number ≡ sb.dev_number) × (own.data_offset ≡ sb.data_offset))
        → MatchOption o ⊥ (λ own. (free_number old.newest work ≡ Some own.dev_number) × IsFirstOffset old own.data_offset)
    of None kept = kept
    of (Some own) kept = (free ∙ ap (λ (n : ℕ). Some n) (sym (kept.0 ∙ is)), λ role s held none. kept.1 ∙ first role s held none)
