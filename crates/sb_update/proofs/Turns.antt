-- A slot's turn, and the turns of all slots in order.
use Rattle.std.proofs.Common.{◌≡◌, ◌≢◌, inl, inr, ℕ, zero, suc, ◌+◌, ◌<◌, Bool, true, false, not, ◌&&◌, List, [], ◌∷◌, ◌++◌, take, Option, Some, Ok, Err, refl, sym, ◌∙◌, ap, subst, arith}
use Rattle.std.proofs.lemmas.Bool.{cases_eq}
use Rattle.std.proofs.Math.Seq.{take-nil}
use Rattle.bank.specs.raid_types_Sectors.{Sector}
use Rattle.sb_specs.specs.sb_codec_the_Sb.{Sb}
use Rattle.bank.specs.declared.bank.Operation.{Operation}
use Rattle.bank.specs.declared.bank.Operation.TheVariants.{Write, Flush}
use Rattle.bank.specs.Tape.{Did, run, Kept}
use Rattle.bank.proofs.Laws.{choices_after-write_here, choices_after-write_other, choices_after-flush_here, choices_after-flush_other, kept_again}
use Rattle.bank.proofs.Marks.{Along}
use Rattle.sb_specs.specs.declared.change.Give.{Give}
use Rattle.sb_specs.specs.declared.change.Part.{Part}
use Rattle.sb_specs.specs.Update.{planned, is_part}
use Rattle.sb_specs.specs.Writing.{IsFirstSector, IsPlanned, IsTurn, IsBetween, IsWritten, IsStage}

-- what one turn appended
abbrev pub Turned : (tells : Type 0) (Plan : Sector → Type 0) (slot : ℕ) (due failed : Bool) (old new : List Operation) → Type 0
Turned tells Plan slot due failed old new = tells → (ops : List Operation) × (new ≡ old ++ ops) × IsTurn Plan slot due failed ops

module _ (newest own : Sb) (given : Give) (part : Part) (slot : ℕ) (held : Option Sb) (is : held ≡ Some own) (due : is_part part newest given (Some own) ≡ true) where
  due-held : is_part part newest given held ≡ true
  due-held = subst (λ (h : Option Sb). is_part part newest given h ≡ true) (sym is) due

  planned-held : {v : Sector} → IsFirstSector (planned newest given own) v → IsPlanned newest given held v
  planned-held {v} plan = subst (λ (h : Option Sb). IsPlanned newest given h v) (sym is) plan

  pub turned-ok : {tells T E : Type 0} (old new : List Operation) (x : T) → (v : Sector) × IsFirstSector (planned newest given own) v × Did {E = E} tells (Ok x) old new (Write slot 8 v ∷ Flush slot ∷ [])
      → Turned tells (IsPlanned newest given held) slot (is_part part newest given held) false old new
  turned-ok old new x did = λ told. (
    Write slot 8 did.0 ∷ Flush slot ∷ [],
    did.2.all told refl,
    subst (λ (b : Bool). IsTurn (IsPlanned newest given held) slot b false (Write slot 8 did.0 ∷ Flush slot ∷ [])) (sym due-held) (did.0, planned-held did.1, refl),
  )

  pub turned-err : {tells T E : Type 0} (old new : List Operation) (e : E) → (v : Sector) × IsFirstSector (planned newest given own) v × Did {T = T} tells (Err e) old new (Write slot 8 v ∷ Flush slot ∷ [])
      → Turned tells (IsPlanned newest given held) slot (is_part part newest given held) true old new
  turned-err old new e did = λ told.
      let some = did.2.some told in
      let ops : List Operation = take some.0 (Write slot 8 did.0 ∷ Flush slot ∷ []) in
      (ops, some.1, subst (λ (b : Bool). IsTurn (IsPlanned newest given held) slot b true ops) (sym due-held) (did.0, planned-held did.1, some.0, refl))

-- a live slot that wasn't lost is due where it is in the part
pub turned-due : (Plan : Sector → Type 0) (slot : ℕ) (live lost part failed failed' : Bool) (ops : List Operation) → live ≡ true → lost ≡ false → failed' ≡ failed
    → IsTurn Plan slot part failed ops → IsTurn Plan slot (live && not lost && part) failed' ops
turned-due Plan slot live lost part failed failed' ops is_live not_lost same turned =
    let due_is : (live && not lost && part) ≡ part = (λ j. is_live j && not (not_lost j) && part) in
    subst (λ (b : Bool). IsTurn Plan slot b failed' ops) (sym due_is) (subst (λ (f : Bool). IsTurn Plan slot part f ops) (sym same) turned)

abbrev Disk : Type 0
Disk = ℕ → ℕ → List Sector

-- the turns of all slots, in order, from what a stop may leave before the first
module _ (Plan : ℕ → Sector → Type 0) (due : ℕ → Bool) (d : Disk) where
  -- the next slot's turn is to come
  pub record IsReady (failed : ℕ → Bool) (turn : ℕ) (e : Disk) : Type 0 where
    pub stage : IsStage Plan due failed turn d e
    pub untouched : e turn 8 ≡ d turn 8

  pub ready-first : (failed : ℕ → Bool) → IsReady failed 0 d
  ready-first failed = record {
    stage = record { before = λ s lt is. absurd (omega (arith, lt)); here = λ is. inl refl; after = λ s lt. refl; others = λ s k is. refl; elsewhere = λ s k is. inl refl };
    untouched = refl;
  }

  module _ (failed : ℕ → Bool) (turn : ℕ) where
    -- the slot's own sector is between, and others are as before this operation
    stage_on : (e e' : Disk) → IsStage Plan due failed turn d e → due turn ≡ true → IsBetween (Plan turn) (d turn 8) (e' turn 8)
        → ((s k : ℕ) → s ≢ turn → e' s k ≡ e s k) → ((k : ℕ) → k ≢ 8 → Kept (e turn k) (e' turn k)) → IsStage Plan due failed turn d e'
    stage_on e e' stage is between same kept = record {
      before = λ s lt is'. subst (λ (l : List Sector). IsWritten (Plan s) (failed s) (d s 8) l) (sym (same s 8 (λ eq. omega (arith, lt, eq)))) (stage.before s lt is');
      here = λ _. between;
      after = λ s lt. same s 8 (λ eq. omega (arith, lt, eq)) ∙ stage.after s lt;
      others = λ s k not. same s k (λ eq. absurd (differ (ap due eq ∙ is) not)) ∙ stage.others s k not;
      elsewhere = λ s k not. elim (cases_eq s turn) [
        | inl eq ↦ subst (λ (x : ℕ). Kept (d x k) (e' x k)) (sym eq) (kept_again (d turn k) (e turn k) (e' turn k) (stage.elsewhere turn k not) (kept k not))
        | inr apart ↦ subst (λ (l : List Sector). Kept (d s k) l) (sym (same s k apart)) (stage.elsewhere s k not)
      ];
    }
      where
        differ : {b : Bool} → b ≡ true → b ≡ false → ⊥
        differ true_is false_is = absurd (let both = sym true_is ∙ false_is in cc)

    -- after the turn the next one is to come
    next_on : (failed' : ℕ → Bool) (e : Disk) → IsStage Plan due failed turn d e → (due turn ≡ true → IsWritten (Plan turn) (failed' turn) (d turn 8) (e turn 8))
        → ((s : ℕ) → s < turn → failed' s ≡ failed s) → IsReady failed' (turn + 1) e
    next_on failed' e stage done same = record {
      stage = record {
        before = λ s lt is. elim (cases_eq s turn) [
          | inl eq ↦ subst (λ (x : ℕ). IsWritten (Plan x) (failed' x) (d x 8) (e x 8)) (sym eq) (done (ap due (sym eq) ∙ is))
          | inr apart ↦
              let below : s < turn = omega (arith, lt, apart) in
              subst (λ (b : Bool). IsWritten (Plan s) b (d s 8) (e s 8)) (sym (same s below)) (stage.before s below is)
        ];
        here = λ is. inl (stage.after (turn + 1) (omega arith));
        after = λ s lt. stage.after s (omega (arith, lt));
        others = stage.others;
        elsewhere = stage.elsewhere;
      };
      untouched = stage.after (turn + 1) (omega arith);
    }

    module _ (e : Disk) (ready : IsReady failed turn e) (v : Sector) (plan : Plan turn v) (is : due turn ≡ true) where
      abbrev wrote : Disk
      wrote = run e (Write turn 8 v ∷ [])

      abbrev flushed : Disk
      flushed = run e (Write turn 8 v ∷ Flush turn ∷ [])

      wrote_here : wrote turn 8 ≡ v ∷ d turn 8
      wrote_here = choices_after-write_here turn 8 v (e turn 8) ∙ ap (λ (l : List Sector). v ∷ l) ready.untouched

      wrote_others : (t k : ℕ) → t ≢ turn → wrote t k ≡ e t k
      wrote_others t k not = choices_after-write_other t k turn 8 v (e t k) (inl (λ eq. not (sym eq)))

      wrote_within : (k : ℕ) → k ≢ 8 → wrote turn k ≡ e turn k
      wrote_within k not = choices_after-write_other turn k turn 8 v (e turn k) (inr (λ eq. not (sym eq)))

      flushed_here : flushed turn 8 ≡ v ∷ []
      flushed_here = choices_after-flush_here turn 8 (wrote turn 8) ∙ ap (λ (l : List Sector). take 1 l) wrote_here

      flushed_others : (t k : ℕ) → t ≢ turn → flushed t k ≡ e t k
      flushed_others t k not = choices_after-flush_other t k turn (wrote t k) (λ eq. not (sym eq)) ∙ wrote_others t k not

      flushed_within : (k : ℕ) → k ≢ 8 → Kept (e turn k) (flushed turn k)
      flushed_within k not = inr (choices_after-flush_here turn k (wrote turn k) ∙ ap (λ (l : List Sector). take 1 l) (wrote_within k not))

      at_write : IsStage Plan due failed turn d wrote
      at_write = stage_on e wrote ready.stage is (inr (v, plan, inl wrote_here)) wrote_others (λ k not. inl (wrote_within k not))

      at_flush : IsStage Plan due failed turn d flushed
      at_flush = stage_on e flushed ready.stage is (inr (v, plan, inr flushed_here)) flushed_others flushed_within

    abbrev Goes : (ℕ → Bool) → Disk → List Operation → Type 0
    Goes failed' e ops = Along (IsStage Plan due failed turn d) e ops × IsReady failed' (turn + 1) (run e ops)

    module _ (failed' : ℕ → Bool) (e : Disk) (ready : IsReady failed turn e) (same : (s : ℕ) → s < turn → failed' s ≡ failed s) where
      so_written : (e' : Disk) (b : Bool) → failed' turn ≡ b → IsWritten (Plan turn) b (d turn 8) (e' turn 8) → due turn ≡ true → IsWritten (Plan turn) (failed' turn) (d turn 8) (e' turn 8)
      so_written e' b mine written is = subst (λ (f : Bool). IsWritten (Plan turn) f (d turn 8) (e' turn 8)) (sym mine) written

      failed_along : (v : Sector) (n : ℕ) → Plan turn v → due turn ≡ true → failed' turn ≡ true → Goes failed' e (take n (Write turn 8 v ∷ Flush turn ∷ []))
      failed_along v zero plan is mine = (ready.stage, next_on failed' e ready.stage (so_written e true mine (inl ready.untouched)) same)
      failed_along v (suc zero) plan is mine =
          ((ready.stage, at_write e ready v plan is), next_on failed' (wrote e ready v plan is) (at_write e ready v plan is) (so_written (wrote e ready v plan is) true mine (inr (v, plan, inl (wrote_here e ready v plan is)))) same)
      failed_along v (suc (suc n)) plan is mine =
          subst (λ (l : List Operation). Goes failed' e (Write turn 8 v ∷ Flush turn ∷ l)) (sym (take-nil n)) (
            (ready.stage, (at_write e ready v plan is, at_flush e ready v plan is)),
            next_on failed' (flushed e ready v plan is) (at_flush e ready v plan is) (so_written (flushed e ready v plan is) true mine (inr (v, plan, inr (flushed_here e ready v plan is)))) same,
          )

      by_due : (ops : List Operation) (b : Bool) → due turn ≡ b → (f : Bool) → failed' turn ≡ f → IsTurn (Plan turn) turn b f ops → Goes failed' e ops
      by_due ops false is f mine none = subst (λ (l : List Operation). Goes failed' e l) (sym none) (ready.stage, next_on failed' e ready.stage (λ due_is. absurd (let both = sym due_is ∙ is in cc)) same)
      by_due ops true is true mine (v, plan, n, eq) = subst (λ (l : List Operation). Goes failed' e l) (sym eq) (failed_along v n plan is mine)
      by_due ops true is false mine (v, plan, eq) =
          subst (λ (l : List Operation). Goes failed' e l) (sym eq) (
            (ready.stage, (at_write e ready v plan is, at_flush e ready v plan is)),
            next_on failed' (flushed e ready v plan is) (at_flush e ready v plan is) (so_written (flushed e ready v plan is) false mine (v, plan, flushed_here e ready v plan is)) same,
          )

    -- at each mark of the turn it is this slot's, and afterwards the next one's
    pub turn_along : (failed' : ℕ → Bool) (e : Disk) (ops : List Operation) → IsReady failed turn e → IsTurn (Plan turn) turn (due turn) (failed' turn) ops
        → ((s : ℕ) → s < turn → failed' s ≡ failed s) → Along (IsStage Plan due failed turn d) e ops × IsReady failed' (turn + 1) (run e ops)
    turn_along failed' e ops ready turned same = by_due failed' e ready same ops (due turn) refl (failed' turn) refl turned
