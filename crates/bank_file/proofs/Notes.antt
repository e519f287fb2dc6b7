-- A device in memory, one sector or one note on.
use Rattle.std.proofs.Common.{◌≡◌, ◌≢◌, ◌⊎◌, inl, inr, ℕ, ◌+◌, ◌-◌, ◌*◌, ◌<◌, ◌≤◌, ◌==◌, List, [], ◌∷◌, ◌++◌, length, take, drop, get_or, Some, None, cond, refl, sym, ◌∙◌, ap, arith}
use Rattle.std.specs.Option.{option_or}
use Rattle.std.proofs.lemmas.Bool.Decides.{nat_tests}
use Rattle.std.proofs.lemmas.List.{get_or-drop, get_or-take, take_all}
use Rattle.std.proofs.lemmas.Slice.{take-put_mid_below, drop-put_mid, between-put_mid}
use borrow.Rule.Slice.PartMut.{put_mid}
use Rattle.bank_file.specs.Bytes.{IsPut}
use Rattle.bank_file.specs.Logs.{IsLogged, IsSynced}
use Rattle.bank_file.specs.Entries.{noted}
use Rattle.bank_file.specs.declared.device.Done.TheVariants.{Put, Synced}
use Rattle.bank_file.specs.declared.memory_device.Entry.{Entry}

-- ---- notes

pub noted-here : (entries : List Entry) (entry : Entry) (number : ℕ) → number ≡ entry.number → noted (entries ++ entry ∷ []) number ≡ Some entry.done
noted-here [] entry number same = grind (arith, nat_tests)
noted-here (e ∷ entries) entry number same = ap (λ o. option_or o (cond (e.number == number) (Some e.done) None)) (noted-here entries entry number same)

pub noted-other : (entries : List Entry) (entry : Entry) (number : ℕ) → number ≢ entry.number → noted (entries ++ entry ∷ []) number ≡ noted entries number
noted-other [] entry number other = grind (arith, nat_tests)
noted-other (e ∷ entries) entry number other = ap (λ o. option_or o (cond (e.number == number) (Some e.done) None)) (noted-other entries entry number other)

-- a sector is noted
pub logged-one : (before after : List Entry) (number at : ℕ) (from bytes : List ℕ) → (let entry : Entry = record { number = number; done = Put at bytes } in after ≡ before ++ entry ∷ []) → bytes ≡ from → length from ≡ 512 → IsLogged (noted before) (noted after) number at 1 from
logged-one before after number at from bytes is same size = record {
  inside = λ i lt.
      let none : i ≡ 0 = omega (arith, lt) in
      let number' : number + i ≡ number = omega (arith, lt) in
      let place : at ≡ at + i = omega (arith, lt) in
      let sector : bytes ≡ take 512 (drop (512 * i) from) = same ∙ sym (take_all 512 from (omega (arith, size))) ∙ ap (λ (m : ℕ). take 512 (drop (512 * m) from)) (sym none) in
      ap (λ (l : List Entry). noted l (number + i)) is ∙ noted-here before _ (number + i) number' ∙ (λ x. Some (Put (place x) (sector x)));
  outside = λ i away. ap (λ (l : List Entry). noted l i) is ∙ noted-other before _ i (apart i away);
}
  where
    apart : (i : ℕ) → (i < number) ⊎ (number + 1 ≤ i) → i ≢ number
    apart i (inl below) e = absurd (omega (arith, e, below))
    apart i (inr past) e = absurd (omega (arith, e, past))

pub synced-one : (before after : List Entry) (number : ℕ) → (let entry : Entry = record { number = number; done = Synced } in after ≡ before ++ entry ∷ []) → IsSynced (noted before) (noted after) number
synced-one before after number is = record {
  here = ap (λ (l : List Entry). noted l number) is ∙ noted-here before _ number refl;
  others = λ i other. ap (λ (l : List Entry). noted l i) is ∙ noted-other before _ i other;
}

-- ---- bytes

pub put-one : (xs ys : List ℕ) (a : ℕ) (from : List ℕ) → ys ≡ from → length ys ≡ 512 → a + 512 ≤ length xs → IsPut (λ i. get_or xs i 0) (λ i. get_or (put_mid a (a + 512 - a) xs ys) i 0) a 512 from
put-one xs ys a from same size fits = record {
  inside = λ i lt.
      sym (get_or-drop a (put_mid a (a + 512 - a) xs ys) i 0) ∙ sym (get_or-take (a + 512 - a) (drop a (put_mid a (a + 512 - a) xs ys)) i 0 (omega (arith, lt)))
      ∙ ap (λ (l : List ℕ). get_or l i 0) (between-put_mid a (a + 512 - a) xs ys (a + 512) (omega (arith, fits)) (omega (arith, size)) ∙ same);
  outside = λ i away. elsewhere i away;
}
  where
    elsewhere : (i : ℕ) → (i < a) ⊎ (a + 512 ≤ i) → get_or (put_mid a (a + 512 - a) xs ys) i 0 ≡ get_or xs i 0
    elsewhere i (inl below) =
        sym (get_or-take a (put_mid a (a + 512 - a) xs ys) i 0 below) ∙ ap (λ (l : List ℕ). get_or l i 0) (take-put_mid_below a (a + 512 - a) xs ys a (omega arith) (omega (arith, fits))) ∙ get_or-take a xs i 0 below
    elsewhere i (inr past) =
        let place : a + 512 + (i - (a + 512)) ≡ i = omega (arith, past) in
        ap (λ (m : ℕ). get_or (put_mid a (a + 512 - a) xs ys) m 0) (sym place) ∙ sym (get_or-drop (a + 512) (put_mid a (a + 512 - a) xs ys) (i - (a + 512)) 0)
        ∙ ap (λ (l : List ℕ). get_or l (i - (a + 512)) 0) (drop-put_mid a (a + 512 - a) xs ys (a + 512) (omega arith) (omega (arith, fits)) (omega (arith, size)))
        ∙ get_or-drop (a + 512) xs (i - (a + 512)) 0 ∙ ap (λ (m : ℕ). get_or xs m 0) place
