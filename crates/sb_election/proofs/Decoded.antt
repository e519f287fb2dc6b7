-- A superblock as it is read.
use Rattle.std.proofs.Common.{◌≡◌, ℕ, ◌+◌, ◌<◌, ◌≤◌, lit≤, Bool, true, false, cond, ◌&&◌, List, ◌++◌, take, drop, length, get_or, subst, refl, sym, ap, ap₂, ◌∙◌, arith, Option, Some, None, IsTrue, IsSome, IfSome, length-drop, take-append-drop, take_all}
use Rattle.std.specs.Prelude.{◌↔◌}
use Rattle.std.proofs.lemmas.Bool.{le-leb}
use Rattle.std.proofs.lemmas.List.{length-take-le, get_or-drop}
use Rattle.sb_specs.specs.raid_types_Sectors.{Sector}
use Rattle.sb_specs.specs.sb_codec_the_Sb.{Sb}
use Rattle.sb_specs.specs.sb_codec_Superblock.{superblock_in, is_valid, sb_of}
use Rattle.sb_specs.proofs.sb_codec_SuperblockLaws.{writable-valid}
use Rattle.sb_specs.specs.bank_Given.{Given}
use Rattle.sb_specs.specs.bank_Tape.{AreSectors}
use Rattle.sb_specs.specs.Found.{IsInSectors}
use Rattle.sb_specs.specs.Writing.{IsMember}

-- the bytes of two sectors
two_sectors : (at : ℕ → Sector) (bytes : List ℕ) → length bytes ≡ 1024 → AreSectors at 8 bytes → bytes ≡ at 8 ++ at 9
two_sectors at bytes long parts =
    let first : take 512 bytes ≡ at 8 = parts 0 (omega (arith, long)) in
    let second : take 512 (drop 512 bytes) ≡ at 9 = parts 1 (omega (arith, long)) in
    let rest : length (drop 512 bytes) ≡ 512 = omega (arith, length-drop 512 bytes, long) in
    let whole : take 512 (drop 512 bytes) ≡ drop 512 bytes = take_all 512 (drop 512 bytes) (omega (arith, rest)) in
    sym (take-append-drop 512 bytes) ∙ ap₂ (λ a b. a ++ b) first (sym whole ∙ second)

by_validity : (found : Option Sb) (valid : Bool) (sb : Sb) → (IsSome found ↔ IsTrue valid) → IfSome found (λ x. x ≡ sb)
    → found ≡ cond valid (Some sb) None
by_validity None true sb iff same = absurd (cc (iff.1 refl))
by_validity None false sb iff same = refl
by_validity (Some x) true sb iff same = ap (λ y. Some y) same
by_validity (Some x) false sb iff same = absurd (cc (iff.0 refl))

pub decoded : (sectors : ℕ) (at : ℕ → Sector) (bytes : List ℕ) (found : Option Sb) → 10 ≤ sectors → length bytes ≡ 1024
    → AreSectors at 8 bytes → (IsSome found ↔ IsTrue (is_valid bytes)) → IfSome found (λ sb. sb ≡ sb_of bytes)
    → found ≡ superblock_in sectors at
decoded sectors at bytes found enough long parts valid fields =
    by_validity found (is_valid bytes) (sb_of bytes) valid fields
    ∙ ap (λ b. cond (is_valid b) (Some (sb_of b)) None) (two_sectors at bytes long parts)
    ∙ ap (λ long_enough. cond (long_enough && is_valid (at 8 ++ at 9)) (Some (sb_of (at 8 ++ at 9))) None) (sym (le-leb 10 sectors enough))

-- what was read can be written again
pub readable : (given : Given) (slot : ℕ) (bytes : List ℕ) (found : Option Sb) → slot < given.slots → 10 ≤ given.sectors slot
    → (IsSome found ↔ IsTrue (is_valid bytes)) → IfSome found (λ sb. sb ≡ sb_of bytes)
    → (sb : Sb) → found ≡ Some sb → IsMember given (Some sb) slot
readable given slot bytes None known long valid fields sb e = absurd (cc)
readable given slot bytes (Some x) known long valid fields sb e =
    let same : x ≡ sb = cc in
    record {
      place = record { known = known; some = lit≤ tt; whole = refl; within = omega (arith, long) };
      sb = sb;
      own = refl;
      writable = writable-valid bytes sb (valid.0 refl) (sym same ∙ fields);
    }

-- and stands in two sectors of bytes
pub in-sectors : (at : ℕ → Sector) (bytes : List ℕ) → length bytes ≡ 1024 → ((k : ℕ) → get_or bytes k 0 < 256) → AreSectors at 8 bytes → IsInSectors at
in-sectors at bytes long small parts =
    let first : take 512 bytes ≡ at 8 = parts 0 (omega (arith, long)) in
    let second : take 512 (drop 512 bytes) ≡ at 9 = parts 1 (omega (arith, long)) in
    let rest : length (drop 512 bytes) ≡ 512 = omega (arith, length-drop 512 bytes, long) in
    let whole : drop 512 bytes ≡ at 9 = sym (take_all 512 (drop 512 bytes) (omega (arith, rest))) ∙ second in
    record {
      eighth = ap length (sym first) ∙ length-take-le 512 bytes (omega (arith, long));
      ninth = ap length (sym whole) ∙ rest;
      bytes = λ k. subst (λ (n : ℕ). n < 256) (sym (get_or-drop 512 bytes k 0) ∙ ap (λ (l : List ℕ). get_or l k 0) whole) (small (512 + k));
    }
