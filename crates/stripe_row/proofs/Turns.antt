-- The writes of a row, one role after another, and what a stop may leave between them.
use Rattle.std.proofs.Common.{◌≡◌, ◌≢◌, ◌⊎◌, inl, inr, ⊎_elim, ℕ, zero, suc, ◌+◌, true, false, List, [], ◌∷◌, ◌++◌, length, take, Option, Some, refl, sym, ◌∙◌, ap, subst, arith, append-nil}
use Rattle.std.proofs.lemmas.Bool.{cases_eq}
use Rattle.sb_specs.specs.raid_types_Sectors.{Sector}
use Rattle.sb_specs.specs.raid_types_Shapes.{has_slot}
use Rattle.sb_specs.specs.bank_the_Operation.{Operation}
use Rattle.sb_specs.specs.bank_the_Operation_TheVariants.{Write}
use Rattle.sb_specs.specs.bank_Tape.{disk, run, EachMark}
use Rattle.std.proofs.lemmas.List.{take_all}
use Rattle.sb_specs.proofs.bank_Laws.{choices_after-write_here, choices_after-write_other, disk-written, disk-unwritten}
use Rattle.sb_specs.proofs.bank_Marks.{Along, each_mark-along, each_mark-map, each_mark-then, each_mark-told}
use Rattle.raid_parity_simd.proofs.raid_parity_Columns.{bool_cases}
use Rattle.sb_specs.specs.Reading.{Reading, role_state, holder}
use Rattle.stripe_row.specs.Writes.{HasNew, IsWritingTo, AreWrittenTo, IsTurn, AreApart, slot_in}
use Rattle.stripe_row.proofs.Losses.{some_slot}

-- ---- one turn

-- a slot that is lost is left alone
pub turn_skipped : (slot_of : Option ℕ) (at : ℕ → ℕ) (new : Sector) (lost s : ℕ) → slot_of ≡ Some s → has_slot lost s ≡ true → IsTurn slot_of at new lost lost []
turn_skipped slot_of at new lost s is gone = record {
  one = inl refl;
  unused = λ t is' gone'. refl;
  written = λ t is' here. absurd (let same : ◌≡◌ {A = Option ℕ} (Some s) (Some t) = sym is ∙ is' in let e : s ≡ t = cc in let here' = subst (λ (u : ℕ). has_slot lost u ≡ false) (sym e) here in cc);
}

-- a slot that fails may have done the write or not
pub turn_failed : (slot_of : Option ℕ) (at : ℕ → ℕ) (new : Sector) (lost after s k n : ℕ) (old tape : List Operation) → slot_of ≡ Some s → k ≡ at s → has_slot lost s ≡ false → has_slot after s ≡ true
    → tape ≡ old ++ take n (Write s k new ∷ []) → (ops : List Operation) × (tape ≡ old ++ ops) × IsTurn slot_of at new lost after ops
turn_failed slot_of at new lost after s k n old tape is place here gone did = (
  take n (Write s k new ∷ []),
  did,
  record {
    one = some_of n;
    unused = λ t is' gone'. absurd (let same : ◌≡◌ {A = Option ℕ} (Some s) (Some t) = sym is ∙ is' in let e : s ≡ t = cc in let gone'' = subst (λ (u : ℕ). has_slot lost u ≡ true) (sym e) gone' in cc);
    written = λ t is' here'. absurd (let same : ◌≡◌ {A = Option ℕ} (Some s) (Some t) = sym is ∙ is' in let e : s ≡ t = cc in let here'' = subst (λ (u : ℕ). has_slot after u ≡ false) (sym e) here' in cc);
  },
)
  where
    none_of : (m : ℕ) → ◌≡◌ {A = List Operation} (take m []) []
    none_of zero = refl
    none_of (suc m) = refl

    some_of : (m : ℕ) → (take m (Write s k new ∷ []) ≡ []) ⊎ ((t : ℕ) × (slot_of ≡ Some t) × (take m (Write s k new ∷ []) ≡ Write t (at t) new ∷ []))
    some_of zero = inl refl
    some_of (suc m) = inr (s, is, ap (λ (l : List Operation). Write s k new ∷ l) (none_of m) ∙ ap (λ (j : ℕ). Write s j new ∷ []) place)

-- no slot is written to for two roles
pub slots_apart : (r : Reading) (due : ℕ) → AreApart r → (a b s : ℕ) → slot_in r due a ≡ Some s → slot_in r due b ≡ Some s → a ≡ b
slots_apart r due apart a b s one two = apart a b s
    (some_slot (has_slot due a) (holder (role_state r a)) s one)
    (some_slot (has_slot due b) (holder (role_state r b)) s two)

-- ---- what a stop may leave

module _ (slot_of : ℕ → Option ℕ) (at : ℕ → ℕ) (new : ℕ → Sector) (apart : (a b s : ℕ) → slot_of a ≡ Some s → slot_of b ≡ Some s → a ≡ b) where
  -- one role more may have been written
  writing_more : (n : ℕ) (d e : ℕ → ℕ → List Sector) → IsWritingTo n slot_of at new d e → IsWritingTo (n + 1) slot_of at new d e
  writing_more n d e writing s k = more (writing s k)
    where
      more : (e s k ≡ d s k) ⊎ HasNew n slot_of at new s k (d s k) (e s k) → (e s k ≡ d s k) ⊎ HasNew (n + 1) slot_of at new s k (d s k) (e s k)
      more (inl same) = inl same
      more (inr has) = inr (record { role = has.role; within = omega (arith, has.within); slot = has.slot; place = has.place; value = has.value })

  -- the next role's place has its former values yet
  not_yet : (n : ℕ) (d e : ℕ → ℕ → List Sector) (s k : ℕ) → IsWritingTo n slot_of at new d e → slot_of n ≡ Some s → e s k ≡ d s k
  not_yet n d e s k writing is = among (writing s k)
    where
      among : (e s k ≡ d s k) ⊎ HasNew n slot_of at new s k (d s k) (e s k) → e s k ≡ d s k
      among (inl same) = same
      among (inr has) = absurd (omega (arith, has.within, apart has.role n s has.slot is))

  written_next : (n : ℕ) (d e : ℕ → ℕ → List Sector) (s : ℕ) → IsWritingTo n slot_of at new d e → slot_of n ≡ Some s → IsWritingTo (n + 1) slot_of at new d (run e (Write s (at s) (new n) ∷ []))
  written_next n d e s writing is t k = elim (cases_eq s t) [
    | inl same ↦ elim (cases_eq (at s) k) [
      | inl here ↦ inr (record {
        role = n;
        within = omega arith;
        slot = is ∙ ap (λ (u : ℕ). Some u) same;
        place = sym here ∙ ap at same;
        value = (λ i. run e (Write (same i) (here i) (new n) ∷ []) t k) ∙ choices_after-write_here t k (new n) (e t k)
            ∙ ap (λ (l : List Sector). new n ∷ l) (not_yet n d e t k writing (is ∙ ap (λ (u : ℕ). Some u) same));
      })
      | inr other ↦ unchanged (inr other)
    ]
    | inr other ↦ unchanged (inl other)
  ]
    where
      unchanged : (s ≢ t) ⊎ (at s ≢ k) → (run e (Write s (at s) (new n) ∷ []) t k ≡ d t k) ⊎ HasNew (n + 1) slot_of at new t k (d t k) (run e (Write s (at s) (new n) ∷ []) t k)
      unchanged other = subst (λ (l : List Sector). (l ≡ d t k) ⊎ HasNew (n + 1) slot_of at new t k (d t k) l)
          (sym (choices_after-write_other t k s (at s) (new n) (e t k) other)) (writing_more n d e writing t k)

  turn_along : (n lost after : ℕ) (d e : ℕ → ℕ → List Sector) (ops : List Operation) → IsWritingTo n slot_of at new d e → IsTurn (slot_of n) at (new n) lost after ops → Along (IsWritingTo (n + 1) slot_of at new d) e ops
  turn_along n lost after d e ops writing turn = by_ops turn.one
    where
      by_ops : (ops ≡ []) ⊎ ((s : ℕ) × (slot_of n ≡ Some s) × (ops ≡ Write s (at s) (new n) ∷ [])) → Along (IsWritingTo (n + 1) slot_of at new d) e ops
      by_ops (inl none) = subst (λ (l : List Operation). Along (IsWritingTo (n + 1) slot_of at new d) e l) (sym none) (writing_more n d e writing)
      by_ops (inr one) = subst (λ (l : List Operation). Along (IsWritingTo (n + 1) slot_of at new d) e l) (sym one.2) (writing_more n d e writing, written_next n d e one.0 writing one.1)

  -- one turn more, at each mark
  pub marks_more : {tells : Type 0} (start : ℕ → ℕ → Sector) (n lost after : ℕ) (old mid tape : List Operation)
      → EachMark tells start old mid (IsWritingTo n slot_of at new (disk start old)) → (tells → IsWritingTo n slot_of at new (disk start old) (disk start mid))
      → (tells → (ops : List Operation) × (tape ≡ mid ++ ops) × IsTurn (slot_of n) at (new n) lost after ops)
      → EachMark tells start old tape (IsWritingTo (n + 1) slot_of at new (disk start old))
  marks_more {tells = tells} start n lost after old mid tape marks last turn =
      each_mark-then (each_mark-map (IsWritingTo (n + 1) slot_of at new (disk start old)) (λ told e writing. writing_more n (disk start old) e writing) marks)
      (each_mark-told (λ told.
      let did = turn told in
      subst (λ (l : List Operation). EachMark tells start mid l (IsWritingTo (n + 1) slot_of at new (disk start old))) (sym did.1)
      (each_mark-along tells start mid did.0 (IsWritingTo (n + 1) slot_of at new (disk start old)) (turn_along n lost after (disk start old) (disk start mid) did.0 (last told) did.2))))

  -- and at its end
  pub written_more : (start : ℕ → ℕ → Sector) (n lost after : ℕ) (old mid tape ops : List Operation) → ((s : ℕ) → has_slot lost s ≡ true → has_slot after s ≡ true)
      → IsWritingTo n slot_of at new (disk start old) (disk start mid) → AreWrittenTo n slot_of at new lost (disk start old) (disk start mid)
      → tape ≡ mid ++ ops → IsTurn (slot_of n) at (new n) lost after ops → AreWrittenTo (n + 1) slot_of at new after (disk start old) (disk start tape)
  written_more start n lost after old mid tape ops stay writing written is turn role s lt due here =
      subst (λ (l : List Operation). disk start l s (at s) ≡ new role ∷ disk start old s (at s)) (sym is) (elim (cases_eq role n) [
        | inl same ↦
            let due' : slot_of n ≡ Some s = ap slot_of (sym same) ∙ due in
            let one = turn.written s due' here in
            ap (λ (l : List Operation). disk start (mid ++ l) s (at s)) one ∙ disk-written start mid s (at s) (new n)
            ∙ ap (λ (l : List Sector). new n ∷ l) (not_yet n (disk start old) (disk start mid) s (at s) writing due') ∙ ap (λ (r : ℕ). new r ∷ disk start old s (at s)) (sym same)
        | inr other ↦
            let here' : has_slot lost s ≡ false = ⊎_elim (λ gone. absurd (let e = stay s gone in cc)) (λ left. left) (bool_cases (has_slot lost s)) in
            kept other turn.one ∙ written role s (omega (arith, lt, other)) due here'
      ])
    where
      kept : role ≢ n → (ops ≡ []) ⊎ ((t : ℕ) × (slot_of n ≡ Some t) × (ops ≡ Write t (at t) (new n) ∷ [])) → disk start (mid ++ ops) s (at s) ≡ disk start mid s (at s)
      kept other (inl none) = ap (λ (l : List Operation). disk start l s (at s)) (ap (λ (l : List Operation). mid ++ l) none ∙ append-nil mid)
      kept other (inr one) = ap (λ (l : List Operation). disk start (mid ++ l) s (at s)) one.2
          ∙ disk-unwritten start mid s (at s) one.0 (at one.0) (new n) (inl (λ same. other (apart role n s due (one.1 ∙ ap (λ (u : ℕ). Some u) same))))

-- at the end of a call
pub marks_last : {tells : Type 0} {start : ℕ → ℕ → Sector} {old new : List Operation} {P : (ℕ → ℕ → List Sector) → Type 0} → EachMark tells start old new P → tells → P (disk start new)
marks_last {start = start} {new = new} {P = P} marks told =
    subst (λ (l : List Operation). P (disk start l)) (take_all (length new) new (omega arith)) (marks.each told (length new) (marks.longer told) (omega arith))
