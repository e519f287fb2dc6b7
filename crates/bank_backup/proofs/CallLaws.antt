-- What a read of the header says of the section.
use Rattle.std.proofs.Common.{◌≡◌, ℕ, ◌+◌, ◌-◌, ◌<◌, ◌≤◌, Bool, true, false, ◌&&◌, ◌==◌, nat_lt, nat_le, List, length, Result, Ok, Err, IsOk, OnOk, refl, sym, ◌∙◌, ap, arith}
use Rattle.std.proofs.lemmas.Bool.{le-ltb}
use Rattle.std.proofs.lemmas.Bool.Decides.{nat_tests}
use Rattle.std.proofs.lemmas.List.{take_all}
use Rattle.bank.specs.raid_types_Sectors.{Sector}
use Rattle.bank.specs.raid_types_Bytes.{field}
use Rattle.bank.specs.raid_types_the_Span.{Span}
use Rattle.bank.specs.Tape.{AreSectors}
use Rattle.bank_backup.specs.Section.{is_header_of, names_span, has_section}

-- what holds where a call was answered Ok
pub on-ok : {T E P : Type 0} (r : Result T E) → (IsOk r → P) → OnOk r P
on-ok (Ok x) f = f refl
on-ok (Err e) f = tt

-- ---- a section is found

none-named : (a b c : Bool) → false ≡ ((a && (b && false)) && c)
none-named true true c = refl
none-named true false c = refl
none-named false b c = refl

none-last : (a : Bool) → false ≡ (a && false)
none-last true = refl
none-last false = refl

module _ (uuid : List ℕ) (sectors : ℕ) (slot : ℕ → Sector) (span : Span) where
  pub not-filled : span.hi ≤ span.lo → false ≡ has_section uuid sectors slot span
  not-filled le =
      let is : nat_lt span.lo span.hi ≡ false = le-ltb span.lo span.hi le in
      none-named (is_header_of uuid (slot 0)) ((field (slot 0) 40 8 == 8) && (field (slot 0) 48 8 == span.lo) && (field (slot 0) 56 8 == span.hi - span.lo)) (nat_le (8 + (span.hi - span.lo)) sectors)
      ∙ ap (λ (b : Bool). (is_header_of uuid (slot 0) && ((field (slot 0) 40 8 == 8) && (field (slot 0) 48 8 == span.lo) && (field (slot 0) 56 8 == span.hi - span.lo) && b)) && nat_le (8 + (span.hi - span.lo)) sectors) (sym is)

  pub no-room : sectors < 8 + (span.hi - span.lo) → false ≡ has_section uuid sectors slot span
  no-room lt =
      let is : nat_le (8 + (span.hi - span.lo)) sectors ≡ false = grind (arith, nat_tests) in
      none-last (is_header_of uuid (slot 0) && names_span (slot 0) span) ∙ ap (λ (b : Bool). (is_header_of uuid (slot 0) && names_span (slot 0) span) && b) (sym is)

  pub found-by : (header : Sector) (named : Bool) → header ≡ slot 0 → named ≡ (is_header_of uuid header && names_span header span) → 8 + (span.hi - span.lo) ≤ sectors → named ≡ has_section uuid sectors slot span
  found-by header named is tested room =
      let there : nat_le (8 + (span.hi - span.lo)) sectors ≡ true = grind (arith, nat_tests) in
      tested ∙ ap (λ (h : Sector). is_header_of uuid h && names_span h span) is ∙ of (is_header_of uuid (slot 0) && names_span (slot 0) span)
      ∙ ap (λ (b : Bool). (is_header_of uuid (slot 0) && names_span (slot 0) span) && b) (sym there)
    where
      of : (a : Bool) → a ≡ (a && true)
      of true = refl
      of false = refl

-- one sector that was read
pub read-one : (at : ℕ → Sector) (k : ℕ) (bytes : List ℕ) → length bytes ≡ 512 → AreSectors at k bytes → bytes ≡ at k
read-one at k bytes size are =
    let place : k + 0 ≡ k = omega arith in
    sym (take_all 512 bytes (omega (arith, size))) ∙ are 0 (omega (arith, size)) ∙ ap at place
