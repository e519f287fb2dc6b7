-- What a written header is read as.
use Rattle.std.proofs.Common.{◌≡◌, inl, inr, ℕ, zero, suc, ◌+◌, nat_le, sym, [], ◌∷◌, IsTrue, slice_range, ◌-◌, ◌*◌, ◌/◌, ◌^◌, ◌<◌, Bool, true, false, ◌&&◌, ◌==◌, List, ◌++◌, length, take, drop, refl, ap, ◌∙◌, subst, arith, length-append, ltb, eqb-true, ltb-true}
use Rattle.std.proofs.Math.Seq.{take-append_seam, drop-append-add}
use Rattle.std.proofs.lemmas.Bool.Decides.{nat_tests}
use Rattle.std.proofs.lemmas.Slice.Eq.{bytes_eq-Decides}
use Rattle.bank.specs.raid_types_the_Span.{Span}
use Rattle.bank.specs.raid_types_Bytes.{little, field}
use Rattle.bank.specs.raid_types_Sectors.{Sector}
use Rattle.bank.specs.Tape.{IsIn}
use Rattle.bank_backup.specs.Header.{HeadersSayTheirFields}
use Rattle.bank_backup.specs.Storing.{nth_sector, NamedSectionsAreFound}
use Rattle.bank_backup.specs.Section.{is_header_of, names_span}
use Rattle.bank_backup.specs.Written.{bytes_of, fields_of, header_with, header_of, cleared_header, HeadersNameTheirSpan, ClearedHeadersNameNone}

-- how many numbers so many bytes have
abbrev numbers : ℕ → ℕ
numbers zero = 1
numbers (suc count) = 256 * numbers count

read-back : (count n : ℕ) → n < numbers count → little (bytes_of count n) ≡ n
read-back zero n h = omega (arith, h)
read-back (suc count) n h = rw (read-back count (n / 256) (omega (arith, h))) (omega arith)

module _ (uuid : List ℕ) (sixteen : length uuid ≡ 16) (start len : ℕ) where
  abbrev rest : List ℕ
  rest = fields_of start len

  whole : length (header_with uuid start len) ≡ 512
  whole = omega (arith, length-append uuid rest, sixteen)

  behind_uuid : (n : ℕ) → drop (16 + n) (uuid ++ rest) ≡ drop n rest
  behind_uuid n = subst (λ k. drop (k + n) (uuid ++ rest) ≡ drop n rest) sixteen (drop-append-add uuid rest n)

  uuid_there : take 16 (uuid ++ rest) ≡ uuid
  uuid_there = subst (λ k. take k (uuid ++ rest) ≡ uuid) sixteen (take-append_seam uuid rest)

  own : is_header_of uuid (header_with uuid start len) ≡ true
  own = (bytes_eq-Decides (take 16 (uuid ++ rest)) uuid).1 uuid_there

  begins : field (header_with uuid start len) 40 8 ≡ 8
  begins = ap (λ l. little (take 8 l)) (behind_uuid 8)

  starts : start < 2 ^ 64 → field (header_with uuid start len) 48 8 ≡ start
  starts h = ap (λ l. little (take 8 l)) (behind_uuid 16) ∙ read-back 8 start h

  lasts : len < 2 ^ 64 → field (header_with uuid start len) 56 8 ≡ len
  lasts h = ap (λ l. little (take 8 l)) (behind_uuid 24) ∙ read-back 8 len h

  uuid_at : slice_range (header_with uuid start len) 16 32 ≡ uuid
  uuid_at = uuid_there

-- the tests of a span, on the three numbers that the header has
named-by : (first start len : ℕ) (span : Span) → first ≡ 8 → start ≡ span.lo → len ≡ span.hi - span.lo → span.lo < span.hi
    → ((first == 8) && (start == span.lo) && (len == span.hi - span.lo) && ltb span.lo span.hi) ≡ true
named-by first start len span f s l h = grind (arith, nat_tests)

record HasNumbers (start len : ℕ) (span : Span) : Type 0 where
  starts_at : start ≡ span.lo
  lasts_for : len ≡ span.hi - span.lo
  filled : span.lo < span.hi

both : (a b : Bool) → (a && b) ≡ true → (a ≡ true) × (b ≡ true)
both true b e = (refl, e)
both false b e = absurd (cc)

named-gives : (first start len : ℕ) (span : Span)
    → ((first == 8) && (start == span.lo) && (len == span.hi - span.lo) && ltb span.lo span.hi) ≡ true → HasNumbers start len span
named-gives first start len span e =
    let all = both ((first == 8) && (start == span.lo) && (len == span.hi - span.lo)) (ltb span.lo span.hi) e in
    let two = both ((first == 8) && (start == span.lo)) (len == span.hi - span.lo) all.0 in
    record {
      starts_at = eqb-true start span.lo (both (first == 8) (start == span.lo) two.0).1;
      lasts_for = eqb-true len (span.hi - span.lo) two.1;
      filled = ltb-true span.lo span.hi all.1;
    }

only : (start len : ℕ) (span other : Span) → HasNumbers start len span → HasNumbers start len other → other ≡ span
only start len span other one two =
    let lo : other.lo ≡ span.lo = omega arith in
    let hi : other.hi ≡ span.hi = omega arith in
    λ i. record { lo = lo i; hi = hi i }

pub headers-named : HeadersNameTheirSpan
headers-named uuid span sixteen filled small =
    let first : field (header_of uuid span) 40 8 ≡ 8 = begins uuid sixteen span.lo (span.hi - span.lo) in
    let start : field (header_of uuid span) 48 8 ≡ span.lo = starts uuid sixteen span.lo (span.hi - span.lo) (omega (arith, filled, small)) in
    let len : field (header_of uuid span) 56 8 ≡ span.hi - span.lo = lasts uuid sixteen span.lo (span.hi - span.lo) (omega (arith, filled, small)) in
    record {
      whole = whole uuid sixteen span.lo (span.hi - span.lo);
      own = own uuid sixteen span.lo (span.hi - span.lo);
      named = named-by (field (header_of uuid span) 40 8) (field (header_of uuid span) 48 8) (field (header_of uuid span) 56 8) span first start len filled;
      alone = λ other e. only (field (header_of uuid span) 48 8) (field (header_of uuid span) 56 8) span other
          (record { starts_at = start; lasts_for = len; filled = filled })
          (named-gives (field (header_of uuid span) 40 8) (field (header_of uuid span) 48 8) (field (header_of uuid span) 56 8) other e);
    }

none-named : (a b : Bool) (len : ℕ) (span : Span) → len ≡ 0 → (a && b && (len == span.hi - span.lo) && ltb span.lo span.hi) ≡ false
none-named true true len span e = grind (arith, nat_tests)
none-named true false len span e = refl
none-named false b len span e = refl

pub cleared-none : ClearedHeadersNameNone
cleared-none uuid span sixteen =
    none-named (field (cleared_header uuid) 40 8 == 8) (field (cleared_header uuid) 48 8 == span.lo) (field (cleared_header uuid) 56 8) span
    (lasts uuid sixteen 0 0 (omega arith))

pub headers-say : HeadersSayTheirFields
headers-say uuid start len sixteen low short = record {
  begins = refl;
  fields = λ i. record {
    uuid = uuid_at uuid sixteen start len i;
    devstart = begins uuid sixteen start len i;
    arraystart = starts uuid sixteen start len low i;
    length = lasts uuid sixteen start len short i;
  };
}

-- ---- a section that was stored and named

drawn-one : (vs : List Sector) (v w : Sector) → vs ≡ w ∷ [] → IsIn vs v → v ≡ w
drawn-one vs v w is held = of (subst (λ (l : List Sector). IsIn l v) is held)
  where
    of : IsIn (w ∷ []) v → v ≡ w
    of (inl same) = same
    of (inr none) = absurd none

pub named-found : NamedSectionsAreFound
named-found uuid sectors slot span bytes d e c sixteen filled small size room named drawn =
    let header : c slot 0 ≡ header_of uuid span = drawn-one (e slot 0) (c slot 0) (header_of uuid span) named.header_is (drawn slot 0) in
    let says = headers-named uuid span sixteen filled small in
    record {
      active = subst (λ (h : Sector). IsTrue (is_header_of uuid h && names_span h span && nat_le (8 + (span.hi - span.lo)) sectors)) (sym header)
          (all (is_header_of uuid (header_of uuid span)) (names_span (header_of uuid span) span) (nat_le (8 + (span.hi - span.lo)) sectors) says.own says.named (grind (arith, nat_tests)));
      section = λ x low high.
          let within : x - span.lo < length bytes / 512 = omega (arith, low, high, size) in
          drawn-one (e slot (8 + (x - span.lo))) (c slot (8 + (x - span.lo))) (nth_sector bytes (x - span.lo)) (named.section (x - span.lo) within) (drawn slot (8 + (x - span.lo)));
    }
  where
    all : (a b t : Bool) → a ≡ true → b ≡ true → t ≡ true → (a && b && t) ≡ true
    all true true true one two three = refl
    all false b t one two three = one
    all true false t one two three = two
    all true true false one two three = three
