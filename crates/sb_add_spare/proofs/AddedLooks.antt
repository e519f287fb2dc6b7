-- What is read in a slot that was just flushed is what a stop leaves of it.
use Rattle.std.proofs.Common.{◌≡◌, ◌⊎◌, inl, inr, ℕ, ◌<◌, false, List, [], ◌∷◌, ◌++◌, length, drop, get_or, refl, sym, ap, ◌∙◌, subst, arith, take_all, le_refl, Result, Ok, Err}
use Rattle.std.specs.Prelude.{OnOk, IsOk}
use Rattle.std.specs.Result.{is_err}
use Rattle.std.proofs.lemmas.List.{length-drop, get_or-drop}
use Rattle.sb_safe_updates.specs.raid_types_Sectors.{Sector}
use Rattle.sb_safe_updates.specs.bank_the_Operation.{Operation}
use Rattle.sb_safe_updates.specs.bank_the_Operation_TheVariants.{Flush}
use Rattle.sb_safe_updates.specs.bank_Tape.{Contents, contents, disk, value_after, AreSectors, IsIn}
use Rattle.sb_safe_updates.proofs.bank_Laws.{value_after-append, disk-flushed}
use Rattle.sb_safe_updates.specs.sb_codec_Superblock.{two_by_two}
use Rattle.sb_safe_updates.specs.array_members_Numbers.{AreSecondEntries}

pub done-ok : {T E : Type 0} {Fact : Type 0} (answer : Result T E) → is_err answer ≡ false → OnOk answer Fact → Fact
done-ok (Ok x) none fact = fact
done-ok (Err e) none fact = absurd (cc)

pub is-ok : {T E : Type 0} (answer : Result T E) → is_err answer ≡ false → IsOk answer
is-ok (Ok x) none = refl
is-ok (Err e) none = absurd (cc)

-- the second sector of a superblock that was read
second-read : (start : Contents) (tape : List Operation) (slot : ℕ) (bytes : List ℕ) → length bytes ≡ 1024
    → AreSectors (contents start tape (length tape) slot) 8 bytes → contents start tape (length tape) slot 9 ≡ drop 512 bytes
second-read start tape slot bytes long are =
    sym (are 1 (omega (arith, long))) ∙ take_all 512 (drop 512 bytes) (omega (arith, long, length-drop 512 bytes))

-- it is all that a stop leaves there, where the slot was flushed before
pub second-left : (start : Contents) (before tape : List Operation) (slot : ℕ) (bytes entries : List ℕ) → tape ≡ before ++ Flush slot ∷ []
    → length bytes ≡ 1024 → AreSectors (contents start tape (length tape) slot) 8 bytes → ((k : ℕ) → get_or bytes k 0 < 256) → entries ≡ two_by_two (drop 512 bytes)
    → (sector : Sector) → IsIn (disk start tape slot 9) sector → AreSecondEntries entries sector
second-left start before tape slot bytes entries flushed long are small is sector may =
    let same : sector ≡ drop 512 bytes = alone (disk start tape slot 9) (contents start tape (length tape) slot 9) left may ∙ second-read start tape slot bytes long are in
    let count : length (drop 512 bytes) ≡ 512 = omega (arith, long, length-drop 512 bytes) in
    record {
      long = ap length same ∙ count;
      bytes = λ k. subst (λ (n : ℕ). n < 256) (sym (ap (λ (l : List ℕ). get_or l k 0) same ∙ get_or-drop 512 bytes k 0)) (small _);
      entries_are = ap two_by_two same ∙ sym is;
    }
  where
    alone : (values : List Sector) (v : Sector) → values ≡ v ∷ [] → IsIn values sector → sector ≡ v
    alone values v only may = first (subst (λ (l : List Sector). IsIn l sector) only may)
      where
        first : (sector ≡ v) ⊎ ⊥ → sector ≡ v
        first (inl here) = here
        first (inr none) = absurd none

    left : disk start tape slot 9 ≡ contents start tape (length tape) slot 9 ∷ []
    left = ap (λ (t : List Operation). disk start t slot 9) flushed ∙ disk-flushed start before slot 9 ∙ ap (λ (v : Sector). v ∷ []) (sym now)
      where
        now : contents start tape (length tape) slot 9 ≡ value_after slot 9 (start slot 9) before
        now = ap (λ (t : List Operation). value_after slot 9 (start slot 9) t) (take_all (length tape) tape (le_refl (length tape)) ∙ flushed)
            ∙ value_after-append slot 9 (start slot 9) before (Flush slot ∷ [])
