-- What a bank stores and writes is whole sectors, at every mark.
use Rattle.std.proofs.Common.{◌≡◌, ◌≢◌, ◌⊎◌, inl, inr, ℕ, zero, suc, ◌+◌, ◌<◌, ◌≤◌, ◌==◌, ◌&&◌, Bool, true, false, cond, List, [], ◌∷◌, ◌++◌, length, take, get_or, replicate, All, Some, refl, sym, ◌∙◌, ap, subst, arith}
use Rattle.std.specs.Prelude.{slice_get, slice_index}
use Rattle.std.proofs.lemmas.Bool.{cases_lt}
use Rattle.std.proofs.lemmas.List.{get_or-replicate, get_or_past, get_or-map, length-map, length-replicate}
use Rattle.raid_types.specs.Sectors.{Sector, IsSector, zero_sector}
use Rattle.bank.specs.declared.bank.Operation.{Operation}
use Rattle.bank.specs.declared.bank.Operation.TheVariants.{Write, Flush}
use Rattle.bank.specs.Given.{Given, sizes}
use Rattle.bank.specs.Tape.{Contents, contents, after_one, value_after, IsImage}
use Rattle.bank.specs.Whole.{WritesSector, HasWholeSectors, WholeSectorsStay}
use Rattle.bank.specs.Memory.{zeros_of, given_of, HoldSectors}
use Rattle.bank.proofs.Sizes.{sizes-known, sizes-unknown}
use Rattle.bank.proofs.Slots.{slot-known, length-zeros}

-- ---- after operations

after-whole : (s k : ℕ) (op : Operation) (v : Sector) → IsSector v → WritesSector op → IsSector (after_one s k op v)
after-whole s k (Write t j w) v is whole = by ((t == s) && (j == k))
  where
    by : (b : Bool) → IsSector (cond b w v)
    by true = whole
    by false = is
after-whole s k (Flush t) v is whole = is

pub value-whole : (s k m : ℕ) (v : Sector) (ops : List Operation) → IsSector v → All WritesSector ops → IsSector (value_after s k v (take m ops))
value-whole s k zero v ops is written = is
value-whole s k (suc m) v [] is written = is
value-whole s k (suc m) v (op ∷ ops) is written = value-whole s k m (after_one s k op v) ops (after-whole s k op v is (written zero op (omega arith))) (λ i d lt. written (suc i) d (omega (arith, lt)))

-- each sector of the slots is whole at each mark
contents-whole : (given : Given) (tape : List Operation) → HasWholeSectors given tape → (m s k : ℕ) → s < given.slots → k < given.sectors s → IsSector (contents given.start tape m s k)
contents-whole given tape has m s k known within = value-whole s k m (given.start s k) tape (has.stored s k known within) has.written

pub sectors-whole : WholeSectorsStay
sectors-whole given tape m s k has within = elim (cases_lt s given.slots) [
  | inl known ↦ contents-whole given tape has m s k known (subst (λ (n : ℕ). k < n) (sizes-known given s known) within)
  | inr past ↦ let none = sizes-unknown given s past in absurd (omega (arith, within, none))
]

written-at : (tape : List Operation) (i s k : ℕ) (v : Sector) → All WritesSector tape → slice_get tape i ≡ Some (Write s k v) → IsSector v
written-at [] i s k v written there = absurd (cc)
written-at (op ∷ tape) zero s k v written there = subst WritesSector (some-is there) (written zero op (omega arith))
  where
    some-is : Some op ≡ Some (Write s k v) → op ≡ Write s k v
    some-is e = cc
written-at (op ∷ tape) (suc i) s k v written there = written-at tape i s k v (λ j d lt. written (suc j) d (omega (arith, lt))) there

-- and so is each sector of an image
pub image-whole : (start : Contents) (tape : List Operation) (m s k : ℕ) (c : Contents) → IsSector (start s k) → All WritesSector tape → IsImage start tape m c → IsSector (c s k)
image-whole start tape m s k c is written image =
    let left = image s k in
    elim left.choice [
      | inl held ↦ subst IsSector (sym held) (value-whole s k left.flushed (start s k) tape is written)
      | inr wrote ↦ written-at tape wrote.0 s k (c s k) written wrote.3
    ]

-- ---- the start of a bank in memory

pub zero-whole : IsSector (replicate 512 0)
zero-whole = record { whole = long; bytes = λ at. omega (arith, is-zero at) }
  where
    zeros : List ℕ
    zeros = replicate 512 0

    none : ℕ
    none = 0

    long : length zeros ≡ 512
    long = length-replicate 512 none

    is-zero : (at : ℕ) → get_or zeros at none ≡ none
    is-zero at = elim (cases_lt at 512) [
      | inl below ↦ get_or-replicate 512 at none none below
      | inr past ↦ get_or_past zeros at none (omega (arith, past, long))
    ]

pub zeros-whole : (lengths : List ℕ) → HoldSectors (zeros_of lengths)
zeros-whole lengths s k within =
    let known : s < length lengths = omega (arith, slot-known (zeros_of lengths) s k within, length-zeros lengths) in
    let slot : get_or (zeros_of lengths) s [] ≡ replicate (get_or lengths s 0) (replicate 512 0) = get_or-map (λ (n : ℕ). replicate n (replicate 512 0)) lengths s 0 [] known in
    let short : k < get_or lengths s 0 = subst (λ (n : ℕ). k < n) (ap (λ (l : List Sector). length l) slot ∙ length-replicate (get_or lengths s 0) (replicate 512 0)) within in
    subst IsSector (sym (ap (λ (l : List Sector). get_or l k []) slot ∙ get_or-replicate (get_or lengths s 0) k (replicate 512 0) [] short)) zero-whole
