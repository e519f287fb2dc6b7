-- The members of an update, with the slot that is made a spare.
use Rattle.std.proofs.Common.{◌≡◌, ◌≢◌, inl, inr, ℕ, ◌^◌, ◌<◌, ◌==◌, Bool, true, false, not, ◌&&◌, ◌||◌, nat_lt, List, length, Option, Some, None, slice_set, refl, sym, ◌∙◌, subst, arith}
use Rattle.std.specs.Prelude.{IfSome}
use Rattle.std.proofs.lemmas.Bool.{cases_eq, cases_lt}
use Rattle.std.proofs.lemmas.Bool.Decides.{nat_tests}
use Rattle.std.proofs.lemmas.List.{get_or-set_same, length-set}
use Rattle.reshape_geometry.specs.raid_types_Shapes.{has_slot}
use Rattle.sb_codec.specs.declared.sb.Sb.{Sb}
use Rattle.bank.specs.Given.{Given}
use Rattle.sb_specs.specs.declared.change.Give.{Give}
use Rattle.sb_specs.specs.declared.change.Change.{Change}
use Rattle.sb_specs.specs.declared.members.Members.{Members}
use Rattle.sb_specs.specs.Update.{is_live, is_added, own_in}
use Rattle.sb_specs.specs.Writing.{IsMember, AreMembers}
use Rattle.sb_specs.specs.Outcome.{with_added, is_in_update, live_set, IsAddable, AreLive, AreStored}
use Rattle.sb_specs.proofs.SlotSets.{has-set_of, none_above}
use Rattle.sb_specs.proofs.StoredSlots.{set_apart}

pub taken_roles : (m : Members) (added : Option (ℕ × Sb)) → (with_added m added).roles ≡ m.roles
taken_roles m None = refl
taken_roles m (Some a) = refl

pub taken_spares : (m : Members) (added : Option (ℕ × Sb)) → (with_added m added).spares ≡ m.spares
taken_spares m None = refl
taken_spares m (Some a) = refl

pub taken_newest : (m : Members) (added : Option (ℕ × Sb)) → (with_added m added).newest ≡ m.newest
taken_newest m None = refl
taken_newest m (Some a) = refl

-- ---- each live slot can be written

or_none : (a : Bool) → (a || false) ≡ true → a ≡ true
or_none true is = refl
or_none false is = is

or_other : (a : Bool) (n s : ℕ) → (a || (n == s)) ≡ true → s ≢ n → a ≡ true
or_other true n s is apart = refl
or_other false n s is apart = grind (arith, nat_tests)

taken_member : (given : Given) (m : Members) (added : Option (ℕ × Sb)) → AreLive given m → IfSome added (IsAddable given) → IfSome added (λ a. length (with_added m added).own ≡ 32)
    → (s : ℕ) → (is_live m.roles m.spares s || is_added added s) ≡ true → IsMember given (own_in (with_added m added).own s) s
taken_member given m None live addable count s is = live s (or_none (is_live m.roles m.spares s) is)
taken_member given m (Some a) live addable count s is =
    let taken : Sb = record a.1 { events = m.newest.events } in
    elim (cases_eq s a.0) [
      | inl same ↦ subst (λ (x : ℕ). IsMember given (own_in (slice_set m.own a.0 (Some taken)) x) x) (sym same) (record {
        place = addable.place;
        sb = taken;
        own = get_or-set_same m.own a.0 (Some taken) None (let long = length-set m.own a.0 (Some taken) in omega (arith, addable.slot, count, long));
        writable = record { magic = addable.writable.magic; major = addable.writable.major; super_offset = addable.writable.super_offset; max_dev = addable.writable.max_dev };
      })
      | inr apart ↦
          let old = live s (or_other (is_live m.roles m.spares s) a.0 s is apart) in
          record { place = old.place; sb = old.sb; own = set_apart m.own a.0 s (Some taken) (slice_set m.own a.0 (Some taken)) refl apart ∙ old.own; writable = old.writable }
    ]

in_set : (b t : Bool) (s : ℕ) → b ≡ (nat_lt s 32 && t) → b ≡ true → t ≡ true
in_set b true s is there = refl
in_set b false s is there = grind (arith, nat_tests)

pub taken_members : (given : Given) (m : Members) (change : Change) → AreLive given m → IfSome change.added (IsAddable given) → IfSome change.added (λ a. length (with_added m change.added).own ≡ 32)
    → AreMembers given (with_added m change.added).own (live_set m change)
taken_members given m change live addable count s is =
    let there : is_in_update m change s ≡ true = in_set (has_slot (live_set m change) s) (is_in_update m change s) s (has-set_of 32 (is_in_update m change) s) is in
    taken_member given m change.added live addable count s there

-- ---- sets without others, at each slot

none_of : (a b : Bool) → a ≡ false → false ≡ (a && b)
none_of true b is = absurd (cc)
none_of false b is = refl

pub without_others : (result set other : ℕ) → result < 2 ^ 32 → set < 2 ^ 32 → ((s : ℕ) → s < 32 → has_slot result s ≡ (has_slot set s && not (has_slot other s)))
    → (s : ℕ) → has_slot result s ≡ (has_slot set s && not (has_slot other s))
without_others result set other small small' is s = elim (cases_lt s 32) [
  | inl below ↦ is s below
  | inr above ↦ none_above result s small above ∙ none_of (has_slot set s) (not (has_slot other s)) (none_above set s small' above)
]

pub left_live : (a b : Bool) → (a && b) ≡ true → a ≡ true
left_live true b is = refl
left_live false b is = is

pub stored_as : {newest : Sb} {gives : List Give} {old new : List (Option Sb)} (kept kept' : ℕ → Bool) → ((s : ℕ) → kept s ≡ kept' s) → AreStored newest gives kept old new → AreStored newest gives kept' old new
stored_as kept kept' same a = record { written = λ s is. a.written s (same s ∙ is); others = λ s is. a.others s (same s ∙ is) }
