-- What a stop leaves while a section's sectors are written, and then its header.
use Rattle.std.proofs.Common.{◌≡◌, ◌≢◌, ◌⊎◌, inl, inr, ℕ, zero, suc, ◌+◌, ◌*◌, ◌/◌, ◌<◌, ◌≤◌, List, [], ◌∷◌, ◌++◌, length, take, drop, refl, sym, ◌∙◌, ap, subst, arith}
use Rattle.std.proofs.lemmas.Bool.{cases_eq}
use Rattle.std.proofs.lemmas.List.{drop-drop}
use Rattle.bank.specs.raid_types_Sectors.{Sector}
use Rattle.bank.specs.declared.bank.Operation.{Operation}
use Rattle.bank.specs.declared.bank.Operation.TheVariants.{Write, Flush}
use Rattle.bank.specs.Tape.{Contents, IsIn, Kept, NoWrite, choices, choices_after, disk, run, writes}
use Rattle.bank.proofs.Laws.{choices-append, choices_after-write_here, choices_after-write_other, choices_after-flush_here, choices_after-flush_other, choices-kept, kept_again, kept_in, disk-append, run-append}
use Rattle.bank.proofs.Marks.{Along, along-append, along-map, along-last}
use Rattle.bank.proofs.Calls.{along-take}
use Rattle.bank_backup.specs.Storing.{Disk, nth_sector, section_writes, section_operations, header_operations, HasSomeOf, IsHeading, IsHeaded, IsStoring, IsSectionAlone, IsNaming, IsStoringOrNaming, IsNamed}

-- ---- one operation

-- a value after a write was there before, or is what it wrote
written-in : (s k t j : ℕ) (w v : Sector) (vs : List Sector) → IsIn (choices_after s k (Write t j w) vs) v → IsIn vs v ⊎ ((t ≡ s) × (j ≡ k) × (v ≡ w))
written-in s k t j w v vs held = elim (cases_eq t s) [
  | inl same ↦ elim (cases_eq j k) [
    | inl same' ↦ here same same' (subst (λ (l : List Sector). IsIn l v) ((λ i. choices_after s k (Write (same i) (same' i) w) vs) ∙ choices_after-write_here s k w vs) held)
    | inr other ↦ inl (subst (λ (l : List Sector). IsIn l v) (choices_after-write_other s k t j w vs (inr other)) held)
  ]
  | inr other ↦ inl (subst (λ (l : List Sector). IsIn l v) (choices_after-write_other s k t j w vs (inl other)) held)
]
  where
    here : t ≡ s → j ≡ k → (v ≡ w) ⊎ IsIn vs v → IsIn vs v ⊎ ((t ≡ s) × (j ≡ k) × (v ≡ w))
    here same same' (inl new) = inr (same, same', new)
    here same same' (inr old) = inl old

-- what one write or flush of a slot leaves of the sectors that it doesn't write
kept-one : (s k : ℕ) (vs : List Sector) (op : Operation) → NoWrite s k (op ∷ []) → Kept vs (choices_after s k op vs)
kept-one s k vs op none = choices-kept s k vs (op ∷ []) none

once : (l : List Sector) → take 1 (take 1 l) ≡ take 1 l
once [] = refl
once (x ∷ l) = refl

-- ---- a header

module _ (slot : ℕ) (header : Sector) (d : Disk) where
  abbrev pub wrote : Disk
  wrote = run d (Write slot 0 header ∷ [])

  abbrev closed : Disk
  closed = run d (header_operations slot header)

  pub wrote-beside : (s k : ℕ) → (s ≢ slot) ⊎ (k ≢ 0) → wrote s k ≡ d s k
  wrote-beside s k (inl other) = choices_after-write_other s k slot 0 header (d s k) (inl (λ e. other (sym e)))
  wrote-beside s k (inr other) = choices_after-write_other s k slot 0 header (d s k) (inr (λ e. other (sym e)))

  pub wrote-here : wrote slot 0 ≡ header ∷ d slot 0
  wrote-here = choices_after-write_here slot 0 header (d slot 0)

  closed-other : (s k : ℕ) → s ≢ slot → closed s k ≡ d s k
  closed-other s k other = choices_after-flush_other s k slot (wrote s k) (λ e. other (sym e)) ∙ wrote-beside s k (inl other)

  closed-behind : (k : ℕ) → k ≢ 0 → closed slot k ≡ take 1 (d slot k)
  closed-behind k other = choices_after-flush_here slot k (wrote slot k) ∙ ap (λ (l : List Sector). take 1 l) (wrote-beside slot k (inr other))

  pub closed-here : closed slot 0 ≡ header ∷ []
  closed-here = choices_after-flush_here slot 0 (wrote slot 0) ∙ ap (λ (l : List Sector). take 1 l) wrote-here

  -- at each mark
  pub heading-along : Along (IsHeading slot header d) d (header_operations slot header)
  heading-along = (
    record { others = λ s k other. refl; behind = λ k other. inl refl; header_is = λ v held. inl held },
    (
      record {
        others = λ s k other. wrote-beside s k (inl other);
        behind = λ k other. inl (wrote-beside slot k (inr other));
        header_is = λ v held. new-or v (subst (λ (l : List Sector). IsIn l v) wrote-here held);
      },
      record {
        others = closed-other;
        behind = λ k other. inr (closed-behind k other);
        header_is = λ v held. new-or v (more v (subst (λ (l : List Sector). IsIn l v) closed-here held));
      },
    ),
  )
    where
      new-or : (v : Sector) → IsIn (header ∷ d slot 0) v → IsIn (d slot 0) v ⊎ (v ≡ header)
      new-or v (inl new) = inr new
      new-or v (inr old) = inl old

      more : (v : Sector) → IsIn (header ∷ []) v → IsIn (header ∷ d slot 0) v
      more v (inl new) = inl new
      more v (inr none) = absurd none

  -- and at the end
  pub headed : IsHeaded slot header d closed
  headed = record { others = closed-other; behind = closed-behind; header_is = closed-here }

-- ---- a section

module _ (slot : ℕ) (bytes : List ℕ) where
  -- one of the section's writes, or a flush of the slot
  abbrev IsSectionOp : Operation → Type 0
  IsSectionOp (Write t j w) = (t ≡ slot) × ((i : ℕ) × (i < length bytes / 512) × (j ≡ 8 + i) × (w ≡ nth_sector bytes i))
  IsSectionOp (Flush t) = t ≡ slot

  abbrev AreSectionOps : List Operation → Type 0
  AreSectionOps [] = Unit {0}
  AreSectionOps (op ∷ ops) = IsSectionOp op × AreSectionOps ops

  are-append : (xs ys : List Operation) → AreSectionOps xs → AreSectionOps ys → AreSectionOps (xs ++ ys)
  are-append [] ys one two = two
  are-append (x ∷ xs) ys one two = (one.0, are-append xs ys one.1 two)

  writes-are : (n i : ℕ) (rest : List ℕ) → rest ≡ drop (512 * i) bytes → i + n ≤ length bytes / 512 → AreSectionOps (writes slot (8 + i) n rest)
  writes-are zero i rest is within = tt
  writes-are (suc n) i rest is within =
      let place : 8 + (i + 1) ≡ (8 + i) + 1 = omega arith in
      let far : 512 * i + 512 ≡ 512 * (i + 1) = omega arith in
      let next : drop 512 rest ≡ drop (512 * (i + 1)) bytes = ap (λ (l : List ℕ). drop 512 l) is ∙ drop-drop 512 (512 * i) bytes ∙ ap (λ (m : ℕ). drop m bytes) far in (
        (refl, (i, omega (arith, within), refl, ap (λ (l : List ℕ). take 512 l) is)),
        subst (λ (k : ℕ). AreSectionOps (writes slot k n (drop 512 rest))) place (writes-are n (i + 1) (drop 512 rest) next (omega (arith, within))),
      )

  section-writes-are : AreSectionOps (section_writes slot bytes)
  section-writes-are = writes-are (length bytes / 512) 0 bytes refl (omega arith)

  section-are : AreSectionOps (section_operations slot bytes)
  section-are = are-append (section_writes slot bytes) (Flush slot ∷ []) section-writes-are (refl, tt)

  apart : (k : ℕ) (op : Operation) → (k < 8) ⊎ (8 + length bytes / 512 ≤ k) → IsSectionOp op → NoWrite slot k (op ∷ [])
  apart k (Flush t) out is = tt
  apart k (Write t j w) (inl low) is = (inr (λ e. absurd (omega (arith, low, e, is.1.2))), tt)
  apart k (Write t j w) (inr high) is = (inr (λ e. absurd (omega (arith, high, e, is.1.1, is.1.2))), tt)

  one-other : (s k : ℕ) (op : Operation) (vs : List Sector) → IsSectionOp op → s ≢ slot → choices_after s k op vs ≡ vs
  one-other s k (Write t j w) vs is other = choices_after-write_other s k t j w vs (inl (λ e. other (sym e ∙ is.0)))
  one-other s k (Flush t) vs is other = choices_after-flush_other s k t vs (λ e. other (sym e ∙ is))

  module _ (d : Disk) where
    one-inside : (e : Disk) (op : Operation) → IsSectionOp op → IsStoring slot bytes d e → (i : ℕ) → i < length bytes / 512 → (v : Sector)
        → IsIn (choices_after slot (8 + i) op (e slot (8 + i))) v → IsIn (d slot (8 + i)) v ⊎ (v ≡ nth_sector bytes i)
    one-inside e (Flush t) is was i lt v held = was.inside i lt v (kept_in (e slot (8 + i)) (choices_after slot (8 + i) (Flush t) (e slot (8 + i))) v (kept-one slot (8 + i) (e slot (8 + i)) (Flush t) tt) held)
    one-inside e (Write t j w) is was i lt v held = of (written-in slot (8 + i) t j w v (e slot (8 + i)) held)
      where
        of : IsIn (e slot (8 + i)) v ⊎ ((t ≡ slot) × (j ≡ 8 + i) × (v ≡ w)) → IsIn (d slot (8 + i)) v ⊎ (v ≡ nth_sector bytes i)
        of (inl old) = was.inside i lt v old
        of (inr new) =
            let same : is.1.0 ≡ i = omega (arith, is.1.2, new.1) in
            inr (new.2 ∙ is.1.3 ∙ ap (λ (n : ℕ). nth_sector bytes n) same)

    storing-one : (e : Disk) (op : Operation) → IsSectionOp op → IsStoring slot bytes d e → IsStoring slot bytes d (run e (op ∷ []))
    storing-one e op is was = record {
      others = λ s k other. one-other s k op (e s k) is other ∙ was.others s k other;
      header_is = kept_again (d slot 0) (e slot 0) (choices_after slot 0 op (e slot 0)) was.header_is (kept-one slot 0 (e slot 0) op (apart 0 op (inl (omega arith)) is));
      outside = λ k out. kept_again (d slot k) (e slot k) (choices_after slot k op (e slot k)) (was.outside k out) (kept-one slot k (e slot k) op (apart k op out is));
      inside = λ i lt v held. one-inside e op is was i lt v held;
    }

    storing-from : (ops : List Operation) (e : Disk) → AreSectionOps ops → IsStoring slot bytes d e → Along (IsStoring slot bytes d) e ops
    storing-from [] e are was = was
    storing-from (op ∷ ops) e are was = (was, storing-from ops (run e (op ∷ [])) are.1 (storing-one e op are.0 was))

    unwritten : IsStoring slot bytes d d
    unwritten = record { others = λ s k other. refl; header_is = inl refl; outside = λ k out. inl refl; inside = λ i lt v held. inl held }

    pub storing-along : Along (IsStoring slot bytes d) d (section_operations slot bytes)
    storing-along = storing-from (section_operations slot bytes) d section-are unwritten

    -- ---- the sectors are flushed

    abbrev mid : Disk
    mid = run d (section_operations slot bytes)

    mid-is : (k : ℕ) → mid slot k ≡ take 1 (choices slot k (d slot k) (section_writes slot bytes))
    mid-is k = choices-append slot k (d slot k) (section_writes slot bytes) (Flush slot ∷ []) ∙ choices_after-flush_here slot k (choices slot k (d slot k) (section_writes slot bytes))

    mid-once : (k : ℕ) → take 1 (mid slot k) ≡ mid slot k
    mid-once k = ap (λ (l : List Sector). take 1 l) (mid-is k) ∙ once (choices slot k (d slot k) (section_writes slot bytes)) ∙ sym (mid-is k)

no-writes : (s k j n : ℕ) (bytes : List ℕ) → k < j → NoWrite s k (writes s j n bytes)
no-writes s k j zero bytes lt = tt
no-writes s k j (suc n) bytes lt = (inr (λ e. absurd (omega (arith, lt, e))), no-writes s k (j + 1) n (drop 512 bytes) (omega (arith, lt)))

-- the last of a sector's values is what the writes have for it
last-written : (s k n i : ℕ) (bytes : List ℕ) (vs : List Sector) → i < n → take 1 (choices s (k + i) vs (writes s k n bytes)) ≡ nth_sector bytes i ∷ []
last-written s k zero i bytes vs lt = absurd (omega (arith, lt))
last-written s k (suc n) zero bytes vs lt =
    let here : k + 0 ≡ k = omega arith in
    ap (λ (m : ℕ). take 1 (choices s m (choices_after s m (Write s k (take 512 bytes)) vs) (writes s (k + 1) n (drop 512 bytes)))) here
    ∙ ap (λ (l : List Sector). take 1 (choices s k l (writes s (k + 1) n (drop 512 bytes)))) (choices_after-write_here s k (take 512 bytes) vs)
    ∙ of (choices s k (take 512 bytes ∷ vs) (writes s (k + 1) n (drop 512 bytes)))
    (choices-kept s k (take 512 bytes ∷ vs) (writes s (k + 1) n (drop 512 bytes)) (no-writes s k (k + 1) n (drop 512 bytes) (omega arith)))
  where
    of : (l : List Sector) → Kept (take 512 bytes ∷ vs) l → take 1 l ≡ take 512 bytes ∷ []
    of l (inl same) = ap (λ (m : List Sector). take 1 m) same
    of l (inr one) = ap (λ (m : List Sector). take 1 m) one
last-written s k (suc n) (suc i) bytes vs lt =
    let place : k + suc i ≡ (k + 1) + i = omega arith in
    let far : 512 + 512 * i ≡ 512 * suc i = omega arith in
    ap (λ (m : ℕ). take 1 (choices s m (choices_after s m (Write s k (take 512 bytes)) vs) (writes s (k + 1) n (drop 512 bytes)))) place
    ∙ last-written s (k + 1) n i (drop 512 bytes) (choices_after s ((k + 1) + i) (Write s k (take 512 bytes)) vs) (omega (arith, lt))
    ∙ ap (λ (l : List ℕ). take 512 l ∷ []) (drop-drop (512 * i) 512 bytes ∙ ap (λ (m : ℕ). drop m bytes) far)

module _ (slot : ℕ) (bytes : List ℕ) (d : Disk) where
  alone : IsSectionAlone slot bytes (mid slot bytes d)
  alone i lt = mid-is slot bytes d (8 + i) ∙ last-written slot 8 (length bytes / 512) i bytes (d slot (8 + i)) lt

  module _ (header : Sector) where
    abbrev m : Disk
    m = mid slot bytes d

    stored : IsStoring slot bytes d m
    stored = along-last (IsStoring slot bytes d) d (section_operations slot bytes) (storing-along slot bytes d)

    naming-of : (e : Disk) → ((s k : ℕ) → (s ≢ slot) ⊎ (k ≢ 0) → e s k ≡ m s k) → ((v : Sector) → IsIn (e slot 0) v → IsIn (m slot 0) v ⊎ (v ≡ header)) → IsNaming slot header bytes d e
    naming-of e beside is = record { mid = m; stored = stored; section = alone; beside = beside; header_is = is }

    closed-beside : (s k : ℕ) → (s ≢ slot) ⊎ (k ≢ 0) → run m (header_operations slot header) s k ≡ m s k
    closed-beside s k (inl other) = (headed slot header m).others s k other
    closed-beside s k (inr other) = elim (cases_eq s slot) [
      | inl same ↦ (λ i. run m (header_operations slot header) (same i) k) ∙ (headed slot header m).behind k other ∙ mid-once slot bytes d k ∙ (λ i. m (sym same i) k)
      | inr apart ↦ (headed slot header m).others s k apart
    ]

    pub naming-along : Along (IsNaming slot header bytes d) m (header_operations slot header)
    naming-along =
        let heading = heading-along slot header m in (
          naming-of m (λ s k other. refl) (λ v held. inl held),
          (
            naming-of (run m (Write slot 0 header ∷ [])) (λ s k other. wrote-beside slot header m s k other) heading.1.0.header_is,
            naming-of (run m (header_operations slot header)) closed-beside heading.1.1.header_is,
          ),
        )

    -- at each mark of the call
    pub section-along : Along (IsStoringOrNaming slot header bytes d) d (section_operations slot bytes ++ header_operations slot header)
    section-along = along-append (IsStoringOrNaming slot header bytes d) d (section_operations slot bytes) (header_operations slot header)
        (along-map (IsStoring slot bytes d) (IsStoringOrNaming slot header bytes d) d (section_operations slot bytes) (λ e held. inl held) (storing-along slot bytes d))
        (along-map (IsNaming slot header bytes d) (IsStoringOrNaming slot header bytes d) m (header_operations slot header) (λ e held. inr held) naming-along)

    named : IsNamed slot header bytes d (run m (header_operations slot header))
    named = record {
      others = λ s k other. (headed slot header m).others s k other ∙ stored.others s k other;
      header_is = closed-here slot header m;
      section = λ i lt. closed-beside slot (8 + i) (inr (λ e. absurd (omega (arith, e)))) ∙ alone i lt;
      outside = λ k behind out. subst (λ (l : List Sector). Kept (d slot k) l) (sym (closed-beside slot k (inr behind))) (stored.outside k out);
    }

-- ---- by the tape

module _ (slot : ℕ) (header : Sector) (bytes : List ℕ) (start : Contents) (old new : List Operation) where
  pub named-by : new ≡ old ++ (section_operations slot bytes ++ header_operations slot header) → IsNamed slot header bytes (disk start old) (disk start new)
  named-by is = subst (λ (e : Disk). IsNamed slot header bytes (disk start old) e)
      (sym (ap (λ (l : List Operation). disk start l) is ∙ disk-append start old (section_operations slot bytes ++ header_operations slot header)
      ∙ run-append (disk start old) (section_operations slot bytes) (header_operations slot header))) (named slot bytes (disk start old) header)

  pub storing-by : HasSomeOf (section_writes slot bytes) old new → IsStoring slot bytes (disk start old) (disk start new)
  storing-by some = subst (λ (e : Disk). IsStoring slot bytes (disk start old) e)
      (sym (ap (λ (l : List Operation). disk start l) some.1 ∙ disk-append start old (take some.0 (section_writes slot bytes))))
      (along-last (IsStoring slot bytes (disk start old)) (disk start old) (take some.0 (section_writes slot bytes))
      (along-take (IsStoring slot bytes (disk start old)) (disk start old) (section_writes slot bytes) some.0
      (storing-from slot bytes (disk start old) (section_writes slot bytes) (disk start old) (section-writes-are slot bytes) (unwritten slot bytes (disk start old)))))

  pub naming-by : HasSomeOf (Write slot 0 header ∷ []) (old ++ section_operations slot bytes) new → IsNaming slot header bytes (disk start old) (disk start new)
  naming-by some =
      let naming = naming-along slot bytes (disk start old) header in
      subst (λ (e : Disk). IsNaming slot header bytes (disk start old) e)
      (sym (ap (λ (l : List Operation). disk start l) some.1 ∙ disk-append start (old ++ section_operations slot bytes) (take some.0 (Write slot 0 header ∷ []))
      ∙ ap (λ (e : Disk). run e (take some.0 (Write slot 0 header ∷ []))) (disk-append start old (section_operations slot bytes))))
      (along-last (IsNaming slot header bytes (disk start old)) (mid slot bytes (disk start old)) (take some.0 (Write slot 0 header ∷ []))
      (along-take (IsNaming slot header bytes (disk start old)) (mid slot bytes (disk start old)) (Write slot 0 header ∷ []) some.0 (naming.0, naming.1.0)))

  pub headed-by : new ≡ old ++ header_operations slot header → IsHeaded slot header (disk start old) (disk start new)
  headed-by is = subst (λ (e : Disk). IsHeaded slot header (disk start old) e)
      (sym (ap (λ (l : List Operation). disk start l) is ∙ disk-append start old (header_operations slot header))) (headed slot header (disk start old))
