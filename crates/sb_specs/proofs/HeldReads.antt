-- Each image of the slots of a running array reads as the known superblocks say.
use Rattle.std.proofs.Common.{◌≡◌, ◌≢◌, inl, inr, ℕ, ◌<◌, ◌≤◌, true, false, cond, List, get_or, Option, Some, None, refl, sym, ◌∙◌, subst, arith}
use Rattle.std.proofs.lemmas.Bool.{cases_lt}
use Rattle.std.proofs.lemmas.List.{get_or_past}
use Rattle.reshape_geometry.specs.raid_types_Shapes.{has_slot}
use Rattle.reshape_geometry.specs.raid_types_Search.{tabulate}
use Rattle.bank.proofs.raid_types_Tabulated.{length-tabulate, get_or-tabulate}
use Rattle.sb_codec.specs.declared.sb.Sb.{Sb}
use Rattle.bank.specs.Tape.{Contents}
use Rattle.sb_specs.specs.Reading.{Scope, reading, reading_by, is_fresh}
use Rattle.sb_specs.specs.Update.{own_in}
use Rattle.sb_specs.specs.Reads.{SaysSame, IsNewestLike, HaveSamePart, IsSuited, IsSound, AreReadLike, IsReadAs, held_in, spare_in}
use Rattle.sb_specs.specs.Held.{AreDrawn, own_at, MayRead}
use Rattle.sb_specs.proofs.ReadAlike.{read-alike}

-- the same of the superblocks by slot
pub record AreLike (n : ℕ) (sectors : ℕ → ℕ) (lost : ℕ) (newest : Sb) (X Y : ℕ → Option Sb) : Type 0 where
  pub top : (slot : ℕ) × (sb : Sb) × (slot < n) × (X slot ≡ Some sb) × (sb.events ≡ newest.events)
  pub first : (slot : ℕ) (sb : Sb) → slot < n → X slot ≡ Some sb → sb.events ≡ newest.events → ((s : ℕ) (b : Sb) → s < slot → X s ≡ Some b → b.events ≢ newest.events) → IsNewestLike newest sb
  pub suited : (slot : ℕ) (sb : Sb) → slot < n → X slot ≡ Some sb → IsSuited newest (sectors slot) sb
  pub part : (slot : ℕ) → slot < n → HaveSamePart newest (sectors slot) lost slot (X slot) (Y slot)
  pub apart : (s t : ℕ) (a b : Sb) → s < n → t < n → s ≢ t → X s ≡ Some a → X t ≡ Some b → is_fresh newest a ≡ true → is_fresh newest b ≡ true → a.dev_number ≢ b.dev_number

module _ (n : ℕ) (X : ℕ → Option Sb) where
  at : (s : ℕ) → s < n → get_or (tabulate n X) s None ≡ X s
  at s h = get_or-tabulate n X s None h

  past : (s : ℕ) → n ≤ s → get_or (tabulate n X) s None ≡ None
  past s h = get_or_past (tabulate n X) s None (omega (arith, length-tabulate n X, h))

  there : (s : ℕ) (sb : Sb) → get_or (tabulate n X) s None ≡ Some sb → s < n
  there s sb is = elim (cases_lt s n) [
    | inl below ↦ below
    | inr above ↦ absurd (let none = sym (past s above) ∙ is in cc)
  ]

pub like-listed : (n : ℕ) (sectors : ℕ → ℕ) (lost : ℕ) (newest : Sb) (X Y : ℕ → Option Sb) → AreLike n sectors lost newest X Y → AreReadLike sectors lost newest (tabulate n X) (tabulate n Y)
like-listed n sectors lost newest X Y like = record {
  long = length-tabulate n X ∙ sym (length-tabulate n Y);
  top = (like.top.0, like.top.1, at n X like.top.0 like.top.2 ∙ like.top.3, like.top.4);
  first = λ slot sb is same none_before.
      let h = there n X slot sb is in
      like.first slot sb h (sym (at n X slot h) ∙ is) same (λ s b lt x. none_before s b lt (at n X s (omega (arith, lt, h)) ∙ x));
  suited = λ slot sb is. let h = there n X slot sb is in like.suited slot sb h (sym (at n X slot h) ∙ is);
  part = λ slot. elim (cases_lt slot n) [
    | inl below ↦ subst (λ (x : Option Sb). HaveSamePart newest (sectors slot) lost slot x (get_or (tabulate n Y) slot None)) (sym (at n X slot below))
        (subst (λ (y : Option Sb). HaveSamePart newest (sectors slot) lost slot (X slot) y) (sym (at n Y slot below)) (like.part slot below))
    | inr above ↦ subst (λ (x : Option Sb). HaveSamePart newest (sectors slot) lost slot x (get_or (tabulate n Y) slot None)) (sym (past n X slot above))
        (subst (λ (y : Option Sb). HaveSamePart newest (sectors slot) lost slot None y) (sym (past n Y slot above)) none)
  ];
  apart = λ s t a b differ is is' fresh fresh'.
      let h = there n X s a is in
      let h' = there n X t b is' in
      like.apart s t a b h h' differ (sym (at n X s h) ∙ is) (sym (at n X t h') ∙ is') fresh fresh';
}
  where
    none : {len slot : ℕ} → HaveSamePart newest len lost slot None None
    none = record { role = λ role h. refl; spare = λ left. refl; device = λ role state is. absurd (cc) }

-- one image's superblocks by slot
pub read-like : (scope : Scope) (lost : ℕ) (newest : Sb) (Y : ℕ → Option Sb) (c : Contents) → IsSound newest
    → AreLike scope.sizes.slots scope.sizes.sectors lost newest (λ slot. own_at scope slot (c slot)) Y
    → IsReadAs scope lost (reading_by scope.sizes.sectors (tabulate scope.sizes.slots Y) newest) c
unfolding reading
read-like scope lost newest Y c sound like =
    let r = read-alike scope.sizes.sectors lost newest (tabulate scope.sizes.slots (λ slot. own_at scope slot (c slot))) (tabulate scope.sizes.slots Y) sound
    (like-listed scope.sizes.slots scope.sizes.sectors lost newest (λ slot. own_at scope slot (c slot)) Y like) in
    record { found = r.0; is = r.1; same = r.2 }

pub drawn-may_read : (scope : Scope) (d : ℕ → ℕ → List (List ℕ)) (c : Contents) (slot : ℕ) → AreDrawn d c → MayRead scope d slot (own_at scope slot (c slot))
drawn-may_read scope d c slot drawn = record { at = c slot; eighth = (drawn slot).0; ninth = (drawn slot).1; is = refl }

pub stamped-suited : (newest : Sb) (len csum : ℕ) (sb : Sb) → IsSuited newest len sb → IsSuited newest len (record sb { sb_csum = csum })
stamped-suited newest len csum sb s = record { events = s.events; bits = s.bits; room = s.room; within = s.within; late = s.late }

pub stamped-like : (newest : Sb) (csum : ℕ) (sb : Sb) → IsNewestLike newest sb → IsNewestLike newest (record sb { sb_csum = csum })
stamped-like newest csum sb l = record { array = says l.array; entries = l.entries; late = l.late }
  where
    says : SaysSame newest sb → SaysSame newest (record sb { sb_csum = csum })
    says a = record {
      level = a.level;
      layout = a.layout;
      size = a.size;
      chunksize = a.chunksize;
      raid_disks = a.raid_disks;
      new_level = a.new_level;
      reshape_position = a.reshape_position;
      delta_disks = a.delta_disks;
      new_layout = a.new_layout;
      new_chunk = a.new_chunk;
      resync_offset = a.resync_offset;
      reshaping = a.reshaping;
      backward = a.backward;
    }

-- the slots' superblocks as they are known, by slot
abbrev pub known_at : ℕ → List (Option Sb) → ℕ → Option Sb
known_at known own slot = cond (has_slot known slot) (own_in own slot) None

-- two slots without a part
pub no-part : (newest : Sb) (len lost slot : ℕ) (x : Option Sb) → ((role : ℕ) → role < 16 → held_in newest role slot x ≡ None)
    → (has_slot lost slot ≡ false → spare_in newest len x ≡ false) → HaveSamePart newest len lost slot x None
no-part newest len lost slot x role spare = record { role = role; spare = spare; device = λ role state is. absurd (cc) }
