-- Writes that give each place one value more, one call after another.
use Rattle.std.proofs.Common.{◌≡◌, ◌≢◌, ◌⊎◌, inl, inr, ℕ, zero, suc, ◌+◌, ◌*◌, ◌<◌, List, [], ◌∷◌, ◌++◌, take, drop, append-nil, refl, sym, ◌∙◌, ap, subst, arith}
use Rattle.std.proofs.lemmas.Bool.{cases_eq}
use Rattle.std.proofs.lemmas.List.{drop-drop}
use Rattle.raid_layout.specs.raid_types_Sectors.{Sector}
use Rattle.stripe_row.specs.bank_Given.{Given}
use Rattle.stripe_row.specs.bank_the_Operation.{Operation}
use Rattle.bank.specs.declared.bank.Operation.TheVariants.{Write}
use Rattle.stripe_row.specs.bank_Tape.{EachMark, disk, run, choices, writes}
use Rattle.bank.proofs.Laws.{disk-append, choices_after-write_here, choices_after-write_other}
use Rattle.stripe_row.proofs.bank_Marks.{Along, each_mark-along, each_mark-map, each_mark-then, each_mark-told}
use Rattle.stripe_row.specs.raid_parity_Rows.{sector_of}
use Rattle.stripe_row.proofs.Turns.{marks_last}
use Rattle.stripe_runs.specs.Writing.{IsGaining}
use Rattle.stripe_runs.proofs.PartLaws.{plain}

-- ---- one call's operations

-- a write to a place that has its former values yet
gaining_write : (P : ℕ → ℕ → Sector → Type 0) (d e : ℕ → ℕ → List Sector) (t j : ℕ) (w : Sector) → P t j w → e t j ≡ d t j → IsGaining P d e → IsGaining P d (run e (Write t j w ∷ []))
gaining_write P d e t j w new fresh so_far s k = elim (cases_eq t s) [
  | inl same ↦ elim (cases_eq j k) [
    | inl here ↦ inr (
      w,
      subst (λ (u : ℕ). P u k w) same (subst (λ (i : ℕ). P t i w) here new),
      (λ i. run e (Write (same i) (here i) w ∷ []) s k) ∙ choices_after-write_here s k w (e s k)
          ∙ ap (λ (l : List Sector). w ∷ l) (subst (λ (u : ℕ). e u k ≡ d u k) same (subst (λ (i : ℕ). e t i ≡ d t i) here fresh)),
    )
    | inr other ↦ unchanged (inr other)
  ]
  | inr other ↦ unchanged (inl other)
]
  where
    unchanged : (t ≢ s) ⊎ (j ≢ k) → (run e (Write t j w ∷ []) s k ≡ d s k) ⊎ ((v : Sector) × P s k v × (run e (Write t j w ∷ []) s k ≡ v ∷ d s k))
    unchanged other = subst (λ (l : List Sector). (l ≡ d s k) ⊎ ((v : Sector) × P s k v × (l ≡ v ∷ d s k))) (sym (choices_after-write_other s k t j w (e s k) other)) (so_far s k)

further : (i : ℕ) (bytes : List ℕ) → take 512 (drop (512 * suc i) bytes) ≡ take 512 (drop (512 * i) (drop 512 bytes))
further i bytes =
    let far : 512 + 512 * i ≡ 512 * suc i = omega arith in
    sym (ap (λ (l : List ℕ). take 512 l) (drop-drop (512 * i) 512 bytes ∙ ap (λ (m : ℕ). drop m bytes) far))

-- the first few of a call's writes
along_writes : (P : ℕ → ℕ → Sector → Type 0) (d e : ℕ → ℕ → List Sector) (t j n m : ℕ) (bytes : List ℕ) → ((i : ℕ) → i < n → P t (j + i) (take 512 (drop (512 * i) bytes)))
    → ((i : ℕ) → i < n → e t (j + i) ≡ d t (j + i)) → IsGaining P d e → Along (IsGaining P d) e (take m (writes t j n bytes))
along_writes P d e t j zero zero bytes places fresh so_far = so_far
along_writes P d e t j zero (suc m) bytes places fresh so_far = so_far
along_writes P d e t j (suc n) zero bytes places fresh so_far = so_far
along_writes P d e t j (suc n) (suc m) bytes places fresh so_far =
    let first : j + 0 ≡ j = omega arith in
    let next : (i : ℕ) → j + suc i ≡ (j + 1) + i = λ i. omega arith in (
      so_far,
      along_writes P d (run e (Write t j (take 512 bytes) ∷ [])) t (j + 1) n m (drop 512 bytes)
          (λ i lt. subst (λ (v : Sector). P t ((j + 1) + i) v) (further i bytes) (subst (λ (k : ℕ). P t k (take 512 (drop (512 * suc i) bytes))) (next i) (places (suc i) (omega (arith, lt)))))
          (λ i lt. choices_after-write_other t ((j + 1) + i) t j (take 512 bytes) (e t ((j + 1) + i)) (inr (λ same. omega (arith, same)))
          ∙ subst (λ (k : ℕ). e t k ≡ d t k) (next i) (fresh (suc i) (omega (arith, lt))))
          (gaining_write P d e t j (take 512 bytes) (subst (λ (k : ℕ). P t k (take 512 bytes)) first (places 0 (omega arith))) (subst (λ (k : ℕ). e t k ≡ d t k) first (fresh 0 (omega arith))) so_far),
    )

past_writes : (s p n j : ℕ) (bytes : List ℕ) (vs : List Sector) → p < j → choices s p vs (writes s j n bytes) ≡ vs
past_writes s p zero j bytes vs lt = refl
past_writes s p (suc n) j bytes vs lt =
    ap (λ (l : List Sector). choices s p l (writes s (j + 1) n (drop 512 bytes))) (choices_after-write_other s p s j (take 512 bytes) vs (inr (λ same. omega (arith, lt, same))))
    ∙ past_writes s p n (j + 1) (drop 512 bytes) vs (omega (arith, lt))

-- all of them leave each sector in its place
here_writes : (s p n j i : ℕ) (bytes : List ℕ) (vs : List Sector) → p ≡ j + i → i < n → choices s p vs (writes s j n bytes) ≡ take 512 (drop (512 * i) bytes) ∷ vs
here_writes s p zero j i bytes vs is lt = absurd (omega (arith, lt))
here_writes s p (suc n) j zero bytes vs is lt =
    let same : j ≡ p = omega (arith, is) in
    ap (λ (l : List Sector). choices s p l (writes s (j + 1) n (drop 512 bytes)))
    (subst (λ (k : ℕ). choices s p vs (Write s k (take 512 bytes) ∷ []) ≡ take 512 bytes ∷ vs) (sym same) (choices_after-write_here s p (take 512 bytes) vs))
    ∙ past_writes s p n (j + 1) (drop 512 bytes) (take 512 bytes ∷ vs) (omega (arith, is))
here_writes s p (suc n) j (suc i) bytes vs is lt =
    ap (λ (l : List Sector). choices s p l (writes s (j + 1) n (drop 512 bytes))) (choices_after-write_other s p s j (take 512 bytes) vs (inr (λ same. omega (arith, is, same))))
    ∙ here_writes s p n (j + 1) i (drop 512 bytes) vs (omega (arith, is)) (omega (arith, lt))
    ∙ ap (λ (l : List ℕ). l ∷ vs) (sym (further i bytes))

pub call_written : (start : ℕ → ℕ → Sector) (old new : List Operation) (s j n i : ℕ) (bytes : List ℕ) → new ≡ old ++ writes s j n bytes → i < n
    → disk start new s (j + i) ≡ sector_of bytes i ∷ disk start old s (j + i)
call_written start old new s j n i bytes is lt =
    ap (λ (l : List Operation). disk start l s (j + i)) is ∙ ap (λ (d : ℕ → ℕ → List Sector). d s (j + i)) (disk-append start old (writes s j n bytes))
    ∙ here_writes s (j + i) n j i bytes (disk start old s (j + i)) refl lt
    ∙ ap (λ (v : Sector). v ∷ disk start old s (j + i)) (sym (plain bytes i))

-- at each mark of a call that was to write them
pub call_marks : {tells : Type 0} (start : ℕ → ℕ → Sector) (P : ℕ → ℕ → Sector → Type 0) (s j n : ℕ) (bytes : List ℕ) (old new : List Operation) → ((i : ℕ) → i < n → P s (j + i) (sector_of bytes i))
    → (tells → (m : ℕ) × (new ≡ old ++ take m (writes s j n bytes))) → EachMark tells start old new (IsGaining P (disk start old))
call_marks {tells = tells} start P s j n bytes old new places did = each_mark-told (λ told.
    let some = did told in
    subst (λ (l : List Operation). EachMark tells start old l (IsGaining P (disk start old))) (sym some.1)
    (each_mark-along tells start old (take some.0 (writes s j n bytes)) (IsGaining P (disk start old))
    (along_writes P (disk start old) (disk start old) s j n some.0 bytes (λ i lt. subst (λ (v : Sector). P s (j + i) v) (plain bytes i) (places i lt)) (λ i lt. refl) (λ t k. inl refl))))

-- ---- calls

-- nothing was written
pub marks_same : {tells : Type 0} (start : ℕ → ℕ → Sector) (P : ℕ → ℕ → Sector → Type 0) (old : List Operation) → EachMark tells start old old (IsGaining P (disk start old))
marks_same {tells = tells} start P old =
    subst (λ (l : List Operation). EachMark tells start old l (IsGaining P (disk start old))) (append-nil old)
    (each_mark-along tells start old [] (IsGaining P (disk start old)) (λ t k. inl refl))

-- a place that is none of these has its former values
pub gained_not : (P : ℕ → ℕ → Sector → Type 0) (d e : ℕ → ℕ → List Sector) (s k : ℕ) → ((v : Sector) → P s k v → ⊥) → IsGaining P d e → e s k ≡ d s k
gained_not P d e s k none gaining = by (gaining s k)
  where
    by : (e s k ≡ d s k) ⊎ ((v : Sector) × P s k v × (e s k ≡ v ∷ d s k)) → e s k ≡ d s k
    by (inl same) = same
    by (inr one) = absurd (none one.0 one.1)

pub gaining_wider : (P R : ℕ → ℕ → Sector → Type 0) (d e : ℕ → ℕ → List Sector) → ((s k : ℕ) (v : Sector) → P s k v → R s k v) → IsGaining P d e → IsGaining R d e
gaining_wider P R d e wider gaining s k = by (gaining s k)
  where
    by : (e s k ≡ d s k) ⊎ ((v : Sector) × P s k v × (e s k ≡ v ∷ d s k)) → (e s k ≡ d s k) ⊎ ((v : Sector) × R s k v × (e s k ≡ v ∷ d s k))
    by (inl same) = inl same
    by (inr one) = inr (one.0, wider s k one.0 one.1, one.2)

-- one call after another, whose places are apart
gaining_then : (P Q R : ℕ → ℕ → Sector → Type 0) (d e f : ℕ → ℕ → List Sector) → ((s k : ℕ) (v : Sector) → P s k v → R s k v) → ((s k : ℕ) (v : Sector) → Q s k v → R s k v)
    → ((s k : ℕ) (v w : Sector) → P s k v → Q s k w → ⊥) → IsGaining P d e → IsGaining Q e f → IsGaining R d f
gaining_then P Q R d e f one_of two_of apart one two s k = by (one s k) (two s k)
  where
    by : (e s k ≡ d s k) ⊎ ((v : Sector) × P s k v × (e s k ≡ v ∷ d s k)) → (f s k ≡ e s k) ⊎ ((v : Sector) × Q s k v × (f s k ≡ v ∷ e s k))
        → (f s k ≡ d s k) ⊎ ((v : Sector) × R s k v × (f s k ≡ v ∷ d s k))
    by (inl same) (inl still) = inl (still ∙ same)
    by (inr a) (inl still) = inr (a.0, one_of s k a.0 a.1, still ∙ a.2)
    by (inl same) (inr b) = inr (b.0, two_of s k b.0 b.1, b.2 ∙ ap (λ (l : List Sector). b.0 ∷ l) same)
    by (inr a) (inr b) = absurd (apart s k a.0 b.0 a.1 b.1)

pub marks_wider : {tells : Type 0} (start : ℕ → ℕ → Sector) (P R : ℕ → ℕ → Sector → Type 0) (old new : List Operation) → ((s k : ℕ) (v : Sector) → P s k v → R s k v)
    → EachMark tells start old new (IsGaining P (disk start old)) → EachMark tells start old new (IsGaining R (disk start old))
marks_wider start P R old new wider marks = each_mark-map (IsGaining R (disk start old)) (λ told e gaining. gaining_wider P R (disk start old) e wider gaining) marks

pub marks_then : {tells : Type 0} (start start' : Given) (P Q R : ℕ → ℕ → Sector → Type 0) (old mid new : List Operation) → start' ≡ start
    → ((s k : ℕ) (v : Sector) → P s k v → R s k v) → ((s k : ℕ) (v : Sector) → Q s k v → R s k v) → ((s k : ℕ) (v w : Sector) → P s k v → Q s k w → ⊥)
    → EachMark tells start.start old mid (IsGaining P (disk start.start old)) → EachMark tells start'.start mid new (IsGaining Q (disk start'.start mid))
    → EachMark tells start.start old new (IsGaining R (disk start.start old))
marks_then {tells = tells} start start' P Q R old mid new same one_of two_of apart marks more =
    each_mark-then (marks_wider start.start P R old mid one_of marks)
    (each_mark-map (IsGaining R (disk start.start old))
    (λ told e next. gaining_then P Q R (disk start.start old) (disk start.start mid) e one_of two_of apart (marks_last {P = IsGaining P (disk start.start old)} marks told) next)
    (subst (λ (s : Given). EachMark tells s.start mid new (IsGaining Q (disk s.start mid))) same more))
