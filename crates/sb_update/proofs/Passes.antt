-- The turns of a pass so far, and one more.
use Rattle.std.proofs.Common.{◌≡◌, ◌≢◌, inl, inr, ℕ, ◌+◌, ◌^◌, ◌<◌, ◌≤◌, Bool, true, false, not, ◌&&◌, ◌==◌, List, [], length, Option, append-nil, length-append, refl, sym, ◌∙◌, ap, subst, arith}
use Rattle.std.proofs.lemmas.Bool.{cases_eq, cases_lt}
use Rattle.std.proofs.lemmas.Nat.Bits.{bit_at_above}
use Rattle.bank.specs.raid_types_Sectors.{Sector}
use Rattle.sb_specs.specs.raid_types_Shapes.{has_slot}
use Rattle.sb_specs.specs.sb_codec_the_Sb.{Sb}
use Rattle.bank.specs.declared.bank.Operation.{Operation}
use Rattle.bank.specs.Given.{IsFaulted, NeverFalls}
use Rattle.bank.specs.Tape.{disk, EachMark}
use Rattle.bank.proofs.Laws.{disk-append}
use Rattle.bank.proofs.Marks.{along-map, each_mark-along, each_mark-map, each_mark-then, each_mark-told}
use Rattle.bank.proofs.Causes.{faulted_longer}
use Rattle.sb_specs.specs.declared.change.Give.{Give}
use Rattle.sb_specs.specs.declared.change.Part.{Part}
use Rattle.sb_specs.specs.Update.{is_part, is_due, give_of, own_in}
use Rattle.sb_specs.specs.Writing.{IsPlanned, IsTurn, IsWritten, IsStage, IsWriting, AreWritten, AreLost, plan_of}
use Rattle.sb_update.proofs.Turns.{Turned, IsReady, ready-first, turn_along}

abbrev Disk : Type 0
Disk = ℕ → ℕ → List Sector

-- a set has no slot from 32 on
pub slot_below : (set s : ℕ) → set < 2 ^ 32 → has_slot set s ≡ true → s < 32
slot_below set s small is = elim (cases_lt s 32) [
  | inl below ↦ below
  | inr above ↦ absurd (let none : has_slot set s ≡ false = ap (λ (n : ℕ). n == 1) (bit_at_above set 32 s small above) in let both = sym is ∙ none in cc)
]

-- the slots before this one have had their turns
abbrev pub IsBelow : (ℕ → Sector → Type 0) → (ℕ → Bool) → (ℕ → Bool) → ℕ → Disk → Disk → Type 0
IsBelow Plan due failed slot d e = (turn : ℕ) × (turn ≤ slot) × IsStage Plan due failed turn d e

pub record Passed (tells : Type 0) (Plan : ℕ → Sector → Type 0) (due : ℕ → Bool) (start : ℕ → ℕ → Sector) (before now : List Operation) (lost0 lost : ℕ) (faults0 faults : ℕ → ℕ) (slot : ℕ) : Type 0 where
  pub marks : EachMark tells start before now (IsBelow Plan due (has_slot lost) slot (disk start before))
  pub ready : tells → IsReady Plan due (disk start before) (has_slot lost) slot (disk start now)
  pub later : (s : ℕ) → slot ≤ s → has_slot lost s ≡ has_slot lost0 s
  pub losses : AreLost due lost0 lost faults0 faults
  pub counts : NeverFalls faults0 faults
  pub grew : tells → (s : ℕ) → s < slot → due s ≡ true → has_slot lost s ≡ false → length before + 2 ≤ length now

each_mark-none : {tells : Type 0} {P : Disk → Type 0} (start : ℕ → ℕ → Sector) (before : List Operation) → P (disk start before) → EachMark tells start before before P
each_mark-none {tells = tells} {P = P} start before held =
    subst (λ (l : List Operation). EachMark tells start before l P) (append-nil before) (each_mark-along tells start before [] P held)

pub passed-first : {tells : Type 0} (Plan : ℕ → Sector → Type 0) (due : ℕ → Bool) (start : ℕ → ℕ → Sector) (before : List Operation) (lost : ℕ) (faults : ℕ → ℕ)
    → Passed tells Plan due start before before lost lost faults faults 0
passed-first {tells = tells} Plan due start before lost faults =
    let first = ready-first Plan due (disk start before) (has_slot lost) in
    record {
      marks = each_mark-none start before (0, omega arith, first.stage);
      ready = λ told. first;
      later = λ s le. refl;
      losses = record { stay = λ s is. is; due = λ s is not_so. absurd (let both = sym is ∙ not_so in cc); failed = λ s is not_so. absurd (let both = sym is ∙ not_so in cc) };
      counts = λ s. omega arith;
      grew = λ told s lt. absurd (omega (arith, lt));
    }

-- one turn more
module _ {tells : Type 0} {Plan : ℕ → Sector → Type 0} {due : ℕ → Bool} {start : ℕ → ℕ → Sector} {before now new : List Operation} {lost0 lost lost' : ℕ} {faults0 faults faults' : ℕ → ℕ} {slot : ℕ} where
  pub passed-more : Passed tells Plan due start before now lost0 lost faults0 faults slot
      → Turned tells (Plan slot) slot (due slot) (has_slot lost' slot) now new
      → ((s : ℕ) → s ≢ slot → has_slot lost' s ≡ has_slot lost s)
      → (has_slot lost slot ≡ true → has_slot lost' slot ≡ true)
      → (has_slot lost' slot ≡ true → has_slot lost slot ≡ false → due slot ≡ true)
      → (has_slot lost' slot ≡ true → has_slot lost slot ≡ false → IsFaulted slot faults faults')
      → NeverFalls faults faults'
      → Passed tells Plan due start before new lost0 lost' faults0 faults' (slot + 1)
  passed-more p turned others more was_due fault counts = record {
    marks = each_mark-told (λ told.
        let t = turned told in
        let e : Disk = disk start now in
        let along = turn_along Plan due (disk start before) (has_slot lost) slot (has_slot lost') e t.0 (p.ready told) t.2 (λ s lt. others s (λ eq. omega (arith, lt, eq))) in
        subst (λ (l : List Operation). EachMark tells start before l (Below' (slot + 1))) (sym t.1)
        (each_mark-then
        (each_mark-map (Below' (slot + 1)) (λ _ f at. (at.0, omega (arith, at.1), stage' at.0 f at.1 at.2)) p.marks)
        (each_mark-along tells start now t.0 (Below' (slot + 1)) (along-map (IsStage Plan due (has_slot lost) slot (disk start before)) (Below' (slot + 1)) e t.0 (λ f at. (slot, omega arith, stage' slot f (omega arith) at)) along.0))));
    ready = λ told.
        let t = turned told in
        let along = turn_along Plan due (disk start before) (has_slot lost) slot (has_slot lost') (disk start now) t.0 (p.ready told) t.2 (λ s lt. others s (λ eq. omega (arith, lt, eq))) in
        subst (λ (l : List Operation). IsReady Plan due (disk start before) (has_slot lost') (slot + 1) (disk start l)) (sym t.1)
        (subst (λ (f : Disk). IsReady Plan due (disk start before) (has_slot lost') (slot + 1) f) (sym (disk-append start now t.0)) along.1);
    later = λ s le. others s (λ eq. omega (arith, le, eq)) ∙ p.later s (omega (arith, le));
    losses = record {
      stay = λ s is. elim (cases_eq s slot) [
        | inl eq ↦ ap (has_slot lost') eq ∙ more (ap (has_slot lost) (sym eq) ∙ p.losses.stay s is)
        | inr apart ↦ others s apart ∙ p.losses.stay s is
      ];
      due = λ s is was_not. elim (cases_eq s slot) [
        | inl eq ↦ ap due eq ∙ was_due (ap (has_slot lost') (sym eq) ∙ is) (before_turn s eq was_not)
        | inr apart ↦ p.losses.due s (sym (others s apart) ∙ is) was_not
      ];
      failed = λ s is was_not. elim (cases_eq s slot) [
        | inl eq ↦ faulted_longer s faults0 faults faults' faults' (p.counts s) (omega arith) (counts s)
            (subst (λ (x : ℕ). IsFaulted x faults faults') (sym eq) (fault (ap (has_slot lost') (sym eq) ∙ is) (before_turn s eq was_not)))
        | inr apart ↦ faulted_longer s faults0 faults0 faults faults' (omega arith) (counts s) (p.counts s) (p.losses.failed s (sym (others s apart) ∙ is) was_not)
      ];
    };
    counts = λ s. omega (arith, p.counts s, counts s);
    grew = λ told s lt is kept.
        let t = turned told in
        let long = ap length t.1 ∙ length-append now t.0 in
        elim (cases_eq s slot) [
          | inl eq ↦
              let turn = subst (λ (b : Bool). IsTurn (Plan slot) slot b false t.0) (ap due (sym eq) ∙ is) (subst (λ (b : Bool). IsTurn (Plan slot) slot (due slot) b t.0) (ap (has_slot lost') (sym eq) ∙ kept) t.2) in
              omega (arith, long, ap length turn.2, p.marks.longer told)
          | inr apart ↦ let so_far = p.grew told s (omega (arith, lt, apart)) is (sym (others s apart) ∙ kept) in omega (arith, long, so_far)
        ];
  }
    where
      Below' : ℕ → Disk → Type 0
      Below' n f = IsBelow Plan due (has_slot lost') n (disk start before) f

      stage' : (turn : ℕ) (f : Disk) → turn ≤ slot → IsStage Plan due (has_slot lost) turn (disk start before) f → IsStage Plan due (has_slot lost') turn (disk start before) f
      stage' turn f le at = record {
        before = λ s lt is. subst (λ (b : Bool). IsWritten (Plan s) b (disk start before s 8) (f s 8)) (sym (others s (λ eq. omega (arith, lt, le, eq)))) (at.before s lt is);
        here = at.here;
        after = at.after;
        others = at.others;
        elsewhere = at.elsewhere;
      }

      before_turn : (s : ℕ) → s ≡ slot → has_slot lost0 s ≡ false → has_slot lost slot ≡ false
      before_turn s eq was_not = ap (has_slot lost) (sym eq) ∙ p.later s (omega (arith, eq)) ∙ was_not

-- a turn, by what is planned and due at the start of the pass
due_same : (part : Part) (newest newest0 : Sb) (gives : List Give) (own own0 : List (Option Sb)) (live lost lost0 slot : ℕ) → newest ≡ newest0 → own ≡ own0 → has_slot lost slot ≡ has_slot lost0 slot
    → is_due part newest gives own live lost slot ≡ is_due part newest0 gives own0 live lost0 slot
due_same part newest newest0 gives own own0 live lost lost0 slot n o l = (λ j. has_slot live slot && not (l j) && is_part part (n j) (give_of gives slot) (own_in (o j) slot))

pub turned_here : {tells : Type 0} (part : Part) (newest newest0 : Sb) (gives : List Give) (own own0 : List (Option Sb)) (live lost lost0 slot : ℕ) (failed : Bool) (old new : List Operation)
    → newest ≡ newest0 → own ≡ own0 → has_slot lost slot ≡ has_slot lost0 slot
    → Turned tells (IsPlanned newest (give_of gives slot) (own_in own slot)) slot (is_due part newest gives own live lost slot) failed old new
    → Turned tells (plan_of newest0 gives own0 slot) slot (is_due part newest0 gives own0 live lost0 slot) failed old new
turned_here part newest newest0 gives own own0 live lost lost0 slot failed old new n o l turned = λ told.
    let t = turned told in (
      t.0,
      t.1,
      subst (λ (b : Bool). IsTurn (plan_of newest0 gives own0 slot) slot b failed t.0) (due_same part newest newest0 gives own own0 live lost lost0 slot n o l)
          (subst (λ (h : List (Option Sb)). IsTurn (IsPlanned newest0 (give_of gives slot) (own_in h slot)) slot (is_due part newest gives own live lost slot) failed t.0) o
          (subst (λ (h : Sb). IsTurn (IsPlanned h (give_of gives slot) (own_in own slot)) slot (is_due part newest gives own live lost slot) failed t.0) n t.2)),
    )

pub due_here : (part : Part) (newest newest0 : Sb) (gives : List Give) (own own0 : List (Option Sb)) (live lost lost0 slot : ℕ) → newest ≡ newest0 → own ≡ own0 → has_slot lost slot ≡ has_slot lost0 slot
    → is_due part newest gives own live lost slot ≡ true → is_due part newest0 gives own0 live lost0 slot ≡ true
due_here part newest newest0 gives own own0 live lost lost0 slot n o l is = sym (due_same part newest newest0 gives own own0 live lost lost0 slot n o l) ∙ is

-- after the last turn
module _ {tells : Type 0} {Plan : ℕ → Sector → Type 0} {due : ℕ → Bool} {start : ℕ → ℕ → Sector} {before now : List Operation} {lost0 lost : ℕ} {faults0 faults : ℕ → ℕ} {slot : ℕ} where
  pub passed-marks : Passed tells Plan due start before now lost0 lost faults0 faults slot → EachMark tells start before now (IsWriting Plan due (has_slot lost) (disk start before))
  passed-marks p = each_mark-map (IsWriting Plan due (has_slot lost) (disk start before)) (λ _ f at. (at.0, at.2)) p.marks

  pub passed-all : Passed tells Plan due start before now lost0 lost faults0 faults slot → ((s : ℕ) → due s ≡ true → s < slot) → tells → AreWritten Plan due (has_slot lost) (disk start before) (disk start now)
  passed-all p all told = let r = p.ready told in record { written = λ s is. r.stage.before s (all s is) is; others = r.stage.others; elsewhere = r.stage.elsewhere }

-- a slot that is due is live, so it has had its turn after the last one
pub due_live : (a b c : Bool) → (a && b && c) ≡ true → a ≡ true
due_live true b c is = refl
due_live false true c is = is
due_live false false c is = is

-- a live slot that isn't lost is due, where it is of the part
pub due-here : (part : Part) (newest : Sb) (gives : List Give) (own : List (Option Sb)) (live lost s : ℕ) → has_slot live s ≡ true → has_slot lost s ≡ false
    → is_part part newest (give_of gives s) (own_in own s) ≡ true → is_due part newest gives own live lost s ≡ true
due-here part newest gives own live lost s is none part_is = (λ i. is i && not (none i) && part_is i)
