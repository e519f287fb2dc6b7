-- Bytes that are put, and sectors that are logged, in several pieces.
use Rattle.std.proofs.Common.{◌≡◌, ◌⊎◌, inl, inr, ℕ, ◌+◌, ◌-◌, ◌*◌, ◌<◌, ◌≤◌, List, take, drop, get_or, Some, sym, ◌∙◌, ap, subst, arith}
use Rattle.std.proofs.lemmas.Bool.{cases_lt}
use Rattle.std.proofs.lemmas.List.{get_or-drop, get_or-take, drop-take, take-take, drop-drop}
use Rattle.bank_file.specs.Bytes.{IsPut, AreSame}
use Rattle.bank_file.specs.Logs.{Log, IsLogged, AreKept}
use Rattle.bank_file.specs.declared.device.Done.TheVariants.{Put}

-- one piece more
pub put_more : {before middle after : ℕ → ℕ} {offset done count : ℕ} {buffer : List ℕ} (rest : ℕ) → count ≤ rest → IsPut before middle offset done buffer → IsPut middle after (offset + done) count (take rest (drop done buffer))
    → IsPut before after offset (done + count) buffer
put_more {before} {middle} {after} {offset} {done} {count} {buffer} rest fits first second = record {
  inside = λ i lt. elim (cases_lt i done) [
    | inl below ↦ second.outside (offset + i) (inl (omega (arith, below))) ∙ first.inside i below
    | inr past ↦ ap (λ (j : ℕ). after j) (omega (arith, past)) ∙ second.inside (i - done) (omega (arith, past, lt)) ∙ get_or-take rest (drop done buffer) (i - done) 0 (omega (arith, past, lt, fits)) ∙ get_or-drop done buffer (i - done) 0 ∙ ap (λ (j : ℕ). get_or buffer j 0) (omega (arith, past))
  ];
  outside = λ i away. second.outside i (farther i away) ∙ first.outside i (near i away);
}
  where
    farther : (i : ℕ) → (i < offset) ⊎ (offset + (done + count) ≤ i) → (i < offset + done) ⊎ (offset + done + count ≤ i)
    farther i (inl below) = inl (omega (arith, below))
    farther i (inr past) = inr (omega (arith, past))

    near : (i : ℕ) → (i < offset) ⊎ (offset + (done + count) ≤ i) → (i < offset) ⊎ (offset + done ≤ i)
    near i (inl below) = inl below
    near i (inr past) = inr (omega (arith, past))

-- nothing more
pub put_same : {before middle after : ℕ → ℕ} {offset done : ℕ} {buffer : List ℕ} → IsPut before middle offset done buffer → AreSame middle after → IsPut before after offset done buffer
put_same {offset = offset} first same = record {
  inside = λ i lt. same (offset + i) ∙ first.inside i lt;
  outside = λ i away. same i ∙ first.outside i away;
}

-- the same bytes, numbered otherwise
pub put_at : {before after : ℕ → ℕ} {offset offset' count count' : ℕ} {buffer : List ℕ} → offset ≡ offset' → count ≡ count' → IsPut before after offset count buffer → IsPut before after offset' count' buffer
put_at {before} {after} {offset} {offset'} {count} {count'} {buffer} same same' put = subst (λ (n : ℕ). IsPut before after n count' buffer) same (subst (λ (n : ℕ). IsPut before after offset n buffer) same' put)

pub logged_at : {before after : Log} {number at at' count count' : ℕ} {buffer : List ℕ} → at ≡ at' → count ≡ count' → IsLogged before after number at count buffer → IsLogged before after number at' count' buffer
logged_at {before} {after} {number} {at} {at'} {count} {count'} {buffer} same same' logged = subst (λ (n : ℕ). IsLogged before after number n count' buffer) same (subst (λ (n : ℕ). IsLogged before after number at n buffer) same' logged)

-- sector j of the rest of a buffer
rest_of : (buffer : List ℕ) (rest done j : ℕ) → 512 * j + 512 ≤ rest → take 512 (drop (512 * j) (take rest (drop (512 * done) buffer))) ≡ take 512 (drop (512 * (done + j)) buffer)
rest_of buffer rest done j fits =
    let left : List ℕ = drop (512 * done) buffer in
    let place : 512 * done + 512 * j ≡ 512 * (done + j) = omega arith in
    sym (drop-take (512 * j) 512 (take rest left)) ∙ ap (λ (l : List ℕ). drop (512 * j) l) (take-take (512 * j + 512) rest left fits) ∙ drop-take (512 * j) 512 left
    ∙ ap (λ (l : List ℕ). take 512 l) (drop-drop (512 * j) (512 * done) buffer ∙ ap (λ (m : ℕ). drop m buffer) place)

pub logged_more : {before middle after : Log} {number at done count : ℕ} {buffer : List ℕ} (rest : ℕ) → 512 * count ≤ rest → IsLogged before middle number at done buffer
    → IsLogged middle after (number + done) (at + done) count (take rest (drop (512 * done) buffer)) → IsLogged before after number at (done + count) buffer
logged_more {before} {middle} {after} {number} {at} {done} {count} {buffer} rest fits first second = record {
  inside = λ i lt. elim (cases_lt i done) [
    | inl below ↦ second.outside (number + i) (inl (omega (arith, below))) ∙ first.inside i below
    | inr past ↦
        let place : at + done + (i - done) ≡ at + i = omega (arith, past) in
        let sector : take 512 (drop (512 * (i - done)) (take rest (drop (512 * done) buffer))) ≡ take 512 (drop (512 * i) buffer) =
        rest_of buffer rest done (i - done) (omega (arith, past, lt, fits)) ∙ ap (λ (m : ℕ). take 512 (drop (512 * m) buffer)) (omega (arith, past)) in
        ap (λ (m : ℕ). after m) (omega (arith, past)) ∙ second.inside (i - done) (omega (arith, past, lt)) ∙ (λ x. Some (Put (place x) (sector x)))
  ];
  outside = λ i away. second.outside i (farther i away) ∙ first.outside i (near i away);
}
  where
    farther : (i : ℕ) → (i < number) ⊎ (number + (done + count) ≤ i) → (i < number + done) ⊎ (number + done + count ≤ i)
    farther i (inl below) = inl (omega (arith, below))
    farther i (inr past) = inr (omega (arith, past))

    near : (i : ℕ) → (i < number) ⊎ (number + (done + count) ≤ i) → (i < number) ⊎ (number + done ≤ i)
    near i (inl below) = inl below
    near i (inr past) = inr (omega (arith, past))

pub logged_same : {before middle after : Log} {number at done : ℕ} {buffer : List ℕ} → IsLogged before middle number at done buffer → AreKept middle after → IsLogged before after number at done buffer
logged_same {number = number} first same = record {
  inside = λ i lt. same (number + i) ∙ first.inside i lt;
  outside = λ i away. same i ∙ first.outside i away;
}
