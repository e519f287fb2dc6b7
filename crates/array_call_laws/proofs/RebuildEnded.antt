-- What an array keeps after the step that records a role whole on the slot that recovered it.
use Rattle.std.proofs.Common.{◌≡◌, ◌≢◌, ◌⊎◌, inl, inr, ℕ, ◌*◌, ◌<◌, ◌≤◌, ◌&&◌, ◌||◌, ◌==◌, nat_lt, if◌then◌else◌, Bool, true, false, not, Option, Some, None, is_some, List, [], ◌∷◌, ◌++◌, refl, sym, ◌∙◌, ap, subst, arith}
use Rattle.std.specs.Prelude.{IsTrue, fold}
use Rattle.std.specs.List.{list_any}
use Rattle.std.proofs.lemmas.Bool.{cases_lt, cases_eq}
use Rattle.std.proofs.lemmas.Bool.Decides.{nat_tests}
use Rattle.std.proofs.lemmas.List.Folds.{list_any-append}
use Rattle.std.proofs.lemmas.Nat.{mul-le}
use Rattle.array_call_specs.specs.raid_types_Sectors.{Sector}
use Rattle.array_call_specs.specs.bank_Given.{Given}
use Rattle.array_call_specs.specs.bank_Tape.{Contents}
use Rattle.array_call_specs.specs.sb_specs_the_Members.{Members}
use Rattle.array_call_specs.specs.sb_specs_Reading.{shape_of, role_state, rows_held, holder}
use Rattle.array_call_specs.specs.sb_specs_Reads.{has_spare}
use Rattle.array_call_specs.specs.raid_types_the_Role.{Role}
use Rattle.array_call_specs.specs.raid_types_the_Role_TheVariants.{Whole, Recovering, Missing}
use Rattle.array_call_specs.specs.stripe_row_Rows.{reading_of}
use Rattle.array_call_specs.proofs.stripe_list_FullLaws.{held-full}
use Rattle.array_call_specs.specs.history_the_Entry.{Entry}
use Rattle.array_call_specs.specs.history_OneShape.{is_lost, is_gone_with, is_gone_now}
use Rattle.array_call_specs.specs.history_Plain.{loses_role}
use Rattle.array_call_specs.specs.history_Sound.{LosesNoRole}
use Rattle.array_call_specs.specs.array_members_the_Work.{Work}
use Rattle.array_call_specs.specs.array_members_Placed.{is_unassigned, AreWhole, IsPlaced}
use Rattle.array_call_specs.specs.array_members_Moving.{IsMoved}
use Rattle.array_call_specs.specs.array_members_Status.{stripes_of, rebuilt_of}
use Rattle.array_call_specs.specs.array_members_Rebuilding.{AreSparesFree, AreRebuilt, AreRowsFull, with_whole}
use Rattle.array_call_specs.specs.array_members_Lacking.{HaveFailedSince, RowsStand}
use Rattle.array_call_specs.proofs.array_members_GivenMembers.{IsReceiver, W, state-here, state-other, holder-then, offset-same, rows-other, spare-then, spare-before}
use Rattle.array_call_specs.proofs.array_members_HeldRows.{vacant-missing}
use Rattle.array_call_laws.proofs.RebuildGiven.{few-given, free-then}
use Rattle.array_call_specs.proofs.array_members_Stripes.{stripes-whole}
use Rattle.array_call_specs.proofs.array_members_Fit.{multiple}
use Rattle.array_call_specs.proofs.DegradedLaws.{count-moved}

-- ---- what the slot has of the role

-- Where every stripe is rebuilt, it has each row of it in full: those that it holds stand, and the others were rebuilt.
pub rows-full : (given : Given) (m : Members) (work : Work) (role slot : ℕ) (c : Contents) (list : ℕ → Sector) → IsPlaced given m → role < (shape_of m.newest).disks → role_state (reading_of m) role ≡ Recovering slot
    → stripes_of m ≤ rebuilt_of work role → RowsStand m c list → AreRebuilt work m c list → AreRowsFull m role slot list c
rows-full given m work role slot c list placed below recovers all stands rebuilt row lt = elim (cases_lt row (rows_held (reading_of m) (Recovering slot))) [
  | inl held ↦ sym (held-full (stands row lt) role slot below (
      ap (λ (s : Role). if nat_lt row (rows_held (reading_of m) s) then holder s else None) recovers ∙ ap (λ (b : Bool). if b then Some slot else None) (lt-is row (rows_held (reading_of m) (Recovering slot)) held)))
  | inr beyond ↦ rebuilt role slot row below recovers beyond under lt
]
  where
    lt-is : (a b : ℕ) → a < b → nat_lt a b ≡ true
    lt-is a b l = grind (arith, nat_tests, l)

    under : row < rebuilt_of work role * (shape_of m.newest).chunk
    under =
        let whole = stripes-whole m.newest.size (shape_of m.newest).chunk (multiple given m placed) in
        let more = mul-le (stripes_of m) (shape_of m.newest).chunk (rebuilt_of work role) (shape_of m.newest).chunk all (omega arith) in
        omega (arith, lt, whole, more)

-- ---- what the history tells of it

-- a role that is gone was lost
gone-lost : (role : ℕ) (gone : Bool) (entries : List Entry) → fold (is_gone_with role) gone entries ≡ true → (gone ≡ true) ⊎ (is_lost entries role ≡ true)
gone-lost role gone [] is = inl is
gone-lost role gone (e ∷ entries) is = elim (gone-lost role (is_gone_with role gone e) entries is) [
  | inl early ↦ first gone (list_any (λ e. loses_role role e.event) entries) early
  | inr late ↦ inr (behind (loses_role role e.event) (is_lost entries role) late)
]
  where
    behind : (a b : Bool) → b ≡ true → (a || b) ≡ true
    behind true b is = refl
    behind false b is = is

    first : (g rest : Bool) → is_gone_with role g e ≡ true → (g ≡ true) ⊎ ((loses_role role e.event || rest) ≡ true)
    first true rest is = inl refl
    first false rest is = inr (ap (λ (b : Bool). b || rest) is)

-- so some role was, where this one is gone
pub role-lost : {P : Type 0} (role : ℕ) (entries added : List Entry) → IsTrue (is_gone_now entries role) → LosesNoRole (entries ++ added) → P
role-lost role entries added gone none = elim (gone-lost role false entries gone) [
  | inl never ↦ absurd (cc)
  | inr lost ↦ absurd (
      let all : is_lost (entries ++ added) role ≡ true = list_any-append (λ e. loses_role role e.event) entries added ∙ ap (λ (b : Bool). b || list_any (λ e. loses_role role e.event) added) lost in
      let clash : true ≡ false = sym all ∙ none role in
      cc
      )
]

-- ---- where the slot is lost

module _ (given : Given) (m new : Members) (placed : IsPlaced given m) (role slot : ℕ) (to : IsReceiver given m role slot) (free : AreSparesFree given m) (recovers : role_state (reading_of m) role ≡ Recovering slot)
    (moved : IsMoved given (with_whole role slot m) new) where
  abbrev V : Members
  V = W given m placed None role slot to

  -- who held a role before holds it then
  pub holder-still : (r s : ℕ) → holder (role_state (reading_of m) r) ≡ Some s → holder (role_state (reading_of V) r) ≡ Some s
  holder-still r s held = elim (cases_eq r role) [
    | inl same ↦
        let on : ◌≡◌ {A = Option ℕ} (Some slot) (Some s) = ap holder (sym recovers) ∙ ap (λ (k : ℕ). holder (role_state (reading_of m) k)) (sym same) ∙ held in
        ap (λ (k : ℕ). holder (role_state (reading_of V) k)) same ∙ ap holder (state-here given m placed None role slot to) ∙ on
    | inr apart ↦ ap holder (state-other given m placed None role slot to r apart) ∙ held
  ]

  -- and the other way round
  pub holder-before : (r s : ℕ) → holder (role_state (reading_of V) r) ≡ Some s → holder (role_state (reading_of m) r) ≡ Some s
  holder-before r s held = elim (holder-then given m placed None role slot to r s held) [
    | inl here ↦ ap (λ (k : ℕ). holder (role_state (reading_of m) k)) here.0 ∙ ap holder recovers ∙ ap (λ (k : ℕ). Some k) (sym here.1)
    | inr other ↦ other.2
  ]

  -- each spare is one still
  pub spare-still : (s : ℕ) → has_spare m.spares s ≡ true → has_spare V.spares s ≡ true
  spare-still s has =
      let is_free = free s has in
      spare-then given m placed None role slot to s
      ∙ all (nat_lt s 32) (has_spare m.spares s) (slot == s) (low s is_free.room.small) has (differ slot s (λ same. is_free.none role (ap holder recovers ∙ ap (λ (k : ℕ). Some k) same)))
    where
      low : (s : ℕ) → s < 32 → nat_lt s 32 ≡ true
      low s lt = grind (arith, nat_tests, lt)

      differ : (a b : ℕ) → a ≢ b → (a == b) ≡ false
      differ a b apart = grind (arith, nat_tests, apart)

      all : (a b c : Bool) → a ≡ true → b ≡ true → c ≡ false → (a && (b && not c)) ≡ true
      all true true false one two three = refl
      all false b c one two three = absurd (cc)
      all true false c one two three = absurd (cc)
      all true true true one two three = absurd (cc)

  -- what has failed since
  pub failed-still : (spares : ℕ) (before after : ℕ → ℕ) → HaveFailedSince (with_whole role slot m) new spares before after → HaveFailedSince m new spares before after
  failed-still spares before after failed = record {
    roles = λ r s held. failed.roles r s (holder-still r s held);
    spares_are = failed.spares_are;
    were = λ s has. (spare-before given m placed None role slot to s (failed.were s has)).0;
    fewer = λ s has. (spare-before given m placed None role slot to s (failed.fewer s has)).0;
    told = λ s has. failed.told s (spare-still s has);
  }

  -- the members only moved, where no slot holds the role
  module _ (vacant : is_unassigned (reading_of new) role ≡ true) where
    apart-of : (r s : ℕ) → holder (role_state (reading_of new) r) ≡ Some s → (r ≢ role) × (s ≢ slot)
    apart-of r s held =
        let other : r ≢ role = (λ same. absurd (let clash : false ≡ true = sym (ap (λ (o : Option ℕ). not (is_some o)) (ap (λ (k : ℕ). holder (role_state (reading_of new) k)) (sym same) ∙ held)) ∙ vacant in cc)) in
        (other, (λ same. other (to.only r (holder-before r s (moved.held r s held) ∙ ap (λ (k : ℕ). Some k) same))))

    rows-of : (r : ℕ) (state : Role) → role_state (reading_of new) r ≡ state → rows_held (reading_of V) state ≡ rows_held (reading_of m) state
    rows-of r (Whole s) is = refl
    rows-of r (Recovering s) is = rows-other given m placed None role slot to s (Recovering s) refl (apart-of r s (ap holder is)).1
    rows-of r Missing is = refl

    pub moved-vacant : IsMoved given m new
    moved-vacant = record {
      placed = moved.placed;
      unlost = moved.unlost;
      held = λ r s held. holder-before r s (moved.held r s held);
      states = λ r s held. moved.states r s held ∙ state-other given m placed None role slot to r (apart-of r s held).0;
      rows = λ r. moved.rows r ∙ rows-of r (role_state (reading_of new) r) refl;
      spares = λ few. moved.spares (few-given given m placed None role slot to);
      fewer = λ s has. (spare-before given m placed None role slot to s (moved.fewer s has)).0;
      free = λ all. moved.free (free-then given m placed None role slot to all);
      reshape = moved.reshape;
      shape = moved.shape;
      size = moved.size;
      offsets = λ s. moved.offsets s ∙ offset-same given m placed None role slot to s;
      whole = λ whole. absurd (never whole);
      same = λ whole. absurd (never whole);
    }
      where
        never : AreWhole new → ⊥
        never whole = let clash : true ≡ false = sym (vacant-missing (reading_of new) role vacant) ∙ whole role (subst (λ (n : ℕ). role < n) (sym (count-moved moved)) (let n = placed.roles in let at = to.below in omega (arith, at, n))) in cc

  -- the same roles have no slot
  pub whole-vacant : (disks r : ℕ) → (nat_lt r disks && is_unassigned (reading_of m) r) ≡ (nat_lt r disks && is_unassigned (reading_of V) r)
  whole-vacant disks r = ap (λ (o : Option ℕ). nat_lt r disks && not (is_some o)) (elim (cases_eq r role) [
    | inl same ↦ ap (λ (k : ℕ). holder (role_state (reading_of m) k)) same ∙ ap holder recovers ∙ sym (ap holder (state-here given m placed None role slot to)) ∙ ap (λ (k : ℕ). holder (role_state (reading_of V) k)) (sym same)
    | inr apart ↦ sym (ap holder (state-other given m placed None role slot to r apart))
  ])

  -- where a slot holds the role, it is whole there
  pub whole-after : is_unassigned (reading_of new) role ≡ false → role_state (reading_of new) role ≡ Whole slot
  whole-after held = by (holder (role_state (reading_of new) role)) refl
    where
      by : (o : Option ℕ) → holder (role_state (reading_of new) role) ≡ o → role_state (reading_of new) role ≡ Whole slot
      by None is = absurd (let clash : true ≡ false = sym (ap (λ (o : Option ℕ). not (is_some o)) is) ∙ held in cc)
      by (Some s) is = moved.states role s is ∙ state-here given m placed None role slot to

-- the slot is no spare
pub whole-spare : (given : Given) (m : Members) → AreSparesFree given m → (role slot : ℕ) → role_state (reading_of m) role ≡ Recovering slot → has_spare m.spares slot ≡ false
whole-spare given m free role slot recovers = by (has_spare m.spares slot) refl
  where
    by : (b : Bool) → has_spare m.spares slot ≡ b → has_spare m.spares slot ≡ false
    by true has = absurd ((free slot has).none role (ap holder recovers))
    by false none = none
