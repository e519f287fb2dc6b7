-- The tape that is made of what was done to several devices.
use Rattle.std.proofs.Common.{◌≡◌, ◌≢◌, ◌⊎◌, inl, inr, ℕ, zero, suc, ◌+◌, ◌*◌, ◌<◌, ◌≤◌, List, [], ◌∷◌, ◌++◌, length, take, drop, get_or, set, Some, None, All, refl, sym, ◌∙◌, ap, append_assoc, append-nil, arith}
use Rattle.std.proofs.lemmas.Bool.{cases_lt}
use Rattle.std.proofs.lemmas.Bool.Decides.{nat_tests}
use Rattle.std.proofs.lemmas.List.{length-append, length-take-le, length-drop, get_or-take, get_or-drop, get_or_past, drop-drop}
use Rattle.std.proofs.lemmas.List.Elements.{All-push, All-append}
use Rattle.bank.specs.raid_types_Sectors.{Sector, IsSector}
use Rattle.bank.specs.declared.bank.Operation.{Operation}
use Rattle.bank.specs.declared.bank.Operation.TheVariants.{Write}
use Rattle.bank.specs.Tape.{writes, value_after, after_one}
use Rattle.bank.specs.Whole.{WritesSector}
use Rattle.bank.proofs.Present.{take-writes}
use Rattle.bank_file.specs.Logs.{Log, IsLogged}
use Rattle.bank_file.specs.Images.{log_at, placed, chosen, done_at, tape_of}
use Rattle.bank_file.specs.declared.device.Done.{Done}
use Rattle.bank_file.specs.declared.device.Done.TheVariants.{Put}

pub length-tape : (logs : List Log) (n : ℕ) → length (tape_of logs n) ≡ n
length-tape logs zero = refl
length-tape logs (suc n) = length-append (tape_of logs n) (done_at 0 logs n ∷ []) ∙ omega (arith, length-tape logs n)

-- ---- one slot's log is replaced

-- under a number for which it says the same
pub done-same : (logs : List Log) (first j number : ℕ) (log : Log) → log number ≡ log_at logs j number → done_at first (set logs j log) number ≡ done_at first logs number
done-same [] first j number log same = refl
done-same (l ∷ logs) first zero number log same = ap (λ d. chosen d first (done_at (first + 1) logs number)) same
done-same (l ∷ logs) first (suc j) number log same = ap (λ o. chosen (l number) first o) (done-same logs (first + 1) j number log same)

-- and under one that nothing has
pub done-here : (logs : List Log) (first j number : ℕ) (log : Log) (done : Done) → j < length logs → ((s : ℕ) → log_at logs s number ≡ None) → log number ≡ Some done
    → done_at first (set logs j log) number ≡ placed (first + j) done
done-here [] first j number log done known free is = absurd (omega (arith, known))
done-here (l ∷ logs) first zero number log done known free is =
    let place : first ≡ first + 0 = omega arith in
    ap (λ d. chosen d first (done_at (first + 1) logs number)) is ∙ ap (λ (s : ℕ). placed s done) place
done-here (l ∷ logs) first (suc j) number log done known free is =
    let place : (first + 1) + j ≡ first + suc j = omega arith in
    ap (λ d. chosen d first (done_at (first + 1) (set logs j log) number)) (free 0)
    ∙ done-here logs (first + 1) j number log done (omega (arith, known)) (λ s. free (suc s)) is ∙ ap (λ (s : ℕ). placed s done) place

pub tape-same : (logs : List Log) (j : ℕ) (log : Log) (n : ℕ) → ((i : ℕ) → i < n → log i ≡ log_at logs j i) → tape_of (set logs j log) n ≡ tape_of logs n
tape-same logs j log zero same = refl
tape-same logs j log (suc n) same =
    let before = tape-same logs j log n (λ i lt. same i (omega (arith, lt))) in
    let last = done-same logs 0 j n log (same n (omega arith)) in
    (λ i. before i ++ last i ∷ [])

-- what stands on it is as what each number stands for
pub tape-kept : (logs : List Log) (j : ℕ) (log : Log) (n : ℕ) → ((i : ℕ) → log i ≡ log_at logs j i) → tape_of (set logs j log) n ≡ tape_of logs n
tape-kept logs j log n same = tape-same logs j log n (λ i lt. same i)

-- so many sectors more
pub tape-writes : (logs : List Log) (j : ℕ) (log : Log) (ops at count n : ℕ) (buffer : List ℕ) → j < length logs → ((s i : ℕ) → ops ≤ i → log_at logs s i ≡ None)
    → IsLogged (log_at logs j) log ops at count buffer → count ≤ n → (c : ℕ) → c ≤ count → tape_of (set logs j log) (ops + c) ≡ tape_of logs ops ++ take c (writes j at n buffer)
tape-writes logs j log ops at count n buffer known free logged most zero le =
    let none : ops + 0 ≡ ops = omega arith in
    ap (λ (m : ℕ). tape_of (set logs j log) m) none ∙ tape-same logs j log ops (λ i lt. logged.outside i (inl lt)) ∙ sym (append-nil (tape_of logs ops))
tape-writes logs j log ops at count n buffer known free logged most (suc c) le =
    let so_far = tape-writes logs j log ops at count n buffer known free logged most c (omega (arith, le)) in
    let here = done-here logs 0 j (ops + c) log (Put (at + c) (take 512 (drop (512 * c) buffer))) known (λ s. free s (ops + c) (omega arith)) (logged.inside c (omega (arith, le))) in
    let slot : 0 + j ≡ j = omega arith in
    let op : done_at 0 (set logs j log) (ops + c) ≡ Write j (at + c) (take 512 (drop (512 * c) buffer)) = here ∙ ap (λ (s : ℕ). Write s (at + c) (take 512 (drop (512 * c) buffer))) slot in
    let next : suc c ≡ c + 1 = omega arith in
    let more : take (c + 1) (writes j at n buffer) ≡ take c (writes j at n buffer) ++ Write j (at + c) (take 512 (drop (512 * c) buffer)) ∷ [] = take-writes j at n c buffer (omega (arith, le, most)) in
    let last : ops + suc c ≡ suc (ops + c) = omega arith in
    ap (λ (m : ℕ). tape_of (set logs j log) m) last ∙ (λ i. so_far i ++ op i ∷ []) ∙ append_assoc (tape_of logs ops) (take c (writes j at n buffer)) (Write j (at + c) (take 512 (drop (512 * c) buffer)) ∷ [])
    ∙ ap (λ (l : List Operation). tape_of logs ops ++ l) (sym more) ∙ ap (λ (m : ℕ). tape_of logs ops ++ take m (writes j at n buffer)) (sym next)

-- ---- what is written

after-elsewhere : (s k t j : ℕ) (w v : Sector) → (s ≢ t) ⊎ (k ≢ j) → after_one s k (Write t j w) v ≡ v
after-elsewhere s k t j w v (inl other) = grind (arith, nat_tests)
after-elsewhere s k t j w v (inr other) = grind (arith, nat_tests)

after-here : (s k t j : ℕ) (w v : Sector) → s ≡ t → k ≡ j → after_one s k (Write t j w) v ≡ w
after-here s k t j w v same same' = grind (arith, nat_tests)

-- a sector that none of the writes reaches
pub writes-elsewhere : (s k t j n c : ℕ) (bytes : List ℕ) (v : Sector) → (s ≢ t) ⊎ ((k < j) ⊎ (j + c ≤ k)) → value_after s k v (take c (writes t j n bytes)) ≡ v
writes-elsewhere s k t j n zero bytes v away = refl
writes-elsewhere s k t j zero (suc c) bytes v away = refl
writes-elsewhere s k t j (suc n) (suc c) bytes v away =
    ap (λ (w : Sector). value_after s k w (take c (writes t (j + 1) n (drop 512 bytes)))) (after-elsewhere s k t j (take 512 bytes) v (first away)) ∙ writes-elsewhere s k t (j + 1) n c (drop 512 bytes) v (rest away)
  where
    first : (s ≢ t) ⊎ ((k < j) ⊎ (j + suc c ≤ k)) → (s ≢ t) ⊎ (k ≢ j)
    first (inl other) = inl other
    first (inr (inl below)) = inr (λ e. absurd (omega (arith, e, below)))
    first (inr (inr past)) = inr (λ e. absurd (omega (arith, e, past)))

    rest : (s ≢ t) ⊎ ((k < j) ⊎ (j + suc c ≤ k)) → (s ≢ t) ⊎ ((k < j + 1) ⊎ (j + 1 + c ≤ k))
    rest (inl other) = inl other
    rest (inr (inl below)) = inr (inl (omega (arith, below)))
    rest (inr (inr past)) = inr (inr (omega (arith, past)))

-- and one that they reach
pub writes-here : (t j n c i : ℕ) (bytes : List ℕ) (v : Sector) → i < c → c ≤ n → value_after t (j + i) v (take c (writes t j n bytes)) ≡ take 512 (drop (512 * i) bytes)
writes-here t j n zero i bytes v lt le = absurd (omega (arith, lt))
writes-here t j zero (suc c) i bytes v lt le = absurd (omega (arith, le))
writes-here t j (suc n) (suc c) zero bytes v lt le =
    let same : t ≡ t = refl in
    let place : j + 0 ≡ j = omega arith in
    writes-elsewhere t (j + 0) t (j + 1) n c (drop 512 bytes) (after_one t (j + 0) (Write t j (take 512 bytes)) v) (inr (inl (omega arith))) ∙ after-here t (j + 0) t j (take 512 bytes) v same place
writes-here t j (suc n) (suc c) (suc i) bytes v lt le =
    let place : j + suc i ≡ (j + 1) + i = omega arith in
    let far : 512 + 512 * i ≡ 512 * suc i = omega arith in
    let sector : take 512 (drop (512 * i) (drop 512 bytes)) ≡ take 512 (drop (512 * suc i) bytes) = ap (λ (l : List ℕ). take 512 l) (drop-drop (512 * i) 512 bytes ∙ ap (λ (m : ℕ). drop m bytes) far) in
    ap (λ (k : ℕ). value_after t k v (take (suc c) (writes t j (suc n) bytes))) place
    ∙ writes-here t (j + 1) n c i (drop 512 bytes) (after_one t ((j + 1) + i) (Write t j (take 512 bytes)) v) (omega (arith, lt)) (omega (arith, le)) ∙ sector

pub taken-whole : (bytes : List ℕ) → 512 ≤ length bytes → ((i : ℕ) → get_or bytes i 0 < 256) → IsSector (take 512 bytes)
taken-whole bytes long small = record {
  whole = length-take-le 512 bytes long;
  bytes = λ at. elim (cases_lt at 512) [
    | inl below ↦ omega (arith, get_or-take 512 bytes at 0 below, small at)
    | inr past ↦ omega (arith, get_or_past (take 512 bytes) at 0 (omega (arith, past, length-take-le 512 bytes long)))
  ];
}

pub writes-whole : (t j n c : ℕ) (bytes : List ℕ) → 512 * n ≤ length bytes → ((i : ℕ) → get_or bytes i 0 < 256) → All WritesSector (take c (writes t j n bytes))
writes-whole t j n zero bytes long small = λ i d lt. absurd (omega (arith, lt))
writes-whole t j zero (suc c) bytes long small = λ i d lt. absurd (omega (arith, lt))
writes-whole t j (suc n) (suc c) bytes long small =
    let rest = writes-whole t (j + 1) n c (drop 512 bytes) (omega (arith, long, length-drop 512 bytes)) (λ i. omega (arith, get_or-drop 512 bytes i 0, small (512 + i))) in
    All-append WritesSector (Write t j (take 512 bytes) ∷ []) (take c (writes t (j + 1) n (drop 512 bytes))) (one (taken-whole bytes (omega (arith, long)) small)) rest
  where
    one : IsSector (take 512 bytes) → All WritesSector (Write t j (take 512 bytes) ∷ [])
    one whole = All-push WritesSector [] (Write t j (take 512 bytes)) (λ i d lt. absurd (omega (arith, lt))) whole
