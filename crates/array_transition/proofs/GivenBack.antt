-- An array without a reshape whose backup failed as one was to begin goes on as it was: nothing but the backup's header was tried.
use Rattle.std.proofs.Common.{◌≡◌, ◌≢◌, ◌⊎◌, inl, inr, ℕ, ◌+◌, true, false, Option, Some, Result, Ok, Err, List, [], ◌∷◌, ◌++◌, length, refl, sym, ◌∙◌, arith}
use Rattle.std.specs.Prelude.{IsErr, OnErr}
use Rattle.array_reshaping_steps.specs.raid_types_Sectors.{Sector}
use Rattle.array_reshaping_steps.specs.raid_types_the_Refusal.{Refusal}
use Rattle.array_reshaping_steps.specs.raid_types_the_Refusal_TheVariants.{BackupFault, PastEnd, TooManyMissing, NotResynced}
use Rattle.array_reshaping_steps.specs.raid_types_the_Who.{Who}
use Rattle.array_reshaping_steps.specs.raid_types_the_Phase.{Phase}
use Rattle.array_reshaping_steps.specs.bank_the_Operation.{Operation}
use Rattle.array_reshaping_steps.specs.bank_Given.{Given}
use Rattle.array_reshaping_steps.specs.bank_Tape.{Contents}
use Rattle.array_reshaping_steps.specs.sb_specs_the_Members.{Members}
use Rattle.array_reshaping_steps.specs.sb_specs_Reading.{Scope, role_state, holder, data_offset_of}
use Rattle.array_reshaping_steps.specs.stripe_row_Rows.{reading_of, present}
use Rattle.array_reshaping_steps.proofs.stripe_row_Losses.{holder-of}
use Rattle.array_reshaping_steps.specs.history_the_Entry.{Entry}
use Rattle.array_reshaping_steps.specs.history_the_Event_TheVariants.{Refused}
use Rattle.array_reshaping_steps.specs.history_Flat.{now}
use Rattle.array_reshaping_steps.specs.history_Plain.{entries_of}
use Rattle.array_reshaping_steps.specs.history_Sound.{OpensFit}
use Rattle.array_reshaping_steps.specs.history_World.{World, opening_list}
use Rattle.array_reshaping_steps.specs.crash_views_Views.{Ledger}
use Rattle.array_reshaping_steps.specs.crash_safety_laws_Safety.{HasLiveSlot, IsRisen}
use Rattle.array_reshaping_steps.specs.crash_safety_laws_Steady.{IsSafeOver, KeepsSafe}
use Rattle.array_reshaping_steps.specs.crash_reshape_laws_Plans.{HasNoneRecovering}
use Rattle.array_reshaping_steps.specs.array_members_the_Work.{Work}
use Rattle.array_reshaping_steps.specs.array_members_Moving.{Grows}
use Rattle.array_reshaping_steps.proofs.array_members_MovedLaws.{moved-same}
use Rattle.array_reshaping_steps.proofs.array_call_specs_KeptLaws.{left-lost}
use Rattle.array_reshaping_steps.specs.history_invariant_Recorded.{IsCallGoing}
use Rattle.array_reshaping_steps.specs.history_invariant_Safe.{world_in}
use Rattle.array_reshaping_end_laws.proofs.history_invariant_laws_Behind.{AreEarly}
use Rattle.array_reshaping_steps.specs.array_fixed_invariant_Still.{HasListStood, IsStill}
use Rattle.array_reshaping_steps.proofs.array_fixed_invariant_Quiet.{early-stands}
use Rattle.array_reshaping_steps.proofs.array_fixed_invariant_Refusals.{IsRefusedStill, refused-right}
use Rattle.array_reshaping_steps.proofs.array_fixed_invariant_Resting.{resting-stands}
use Rattle.array_reshaping_steps.proofs.array_specs_Called.{not_254, risen-told}
use Rattle.array_reshaping_steps.proofs.array_reshaping_invariant_Refusals.{quiet-refusal}
use Rattle.array_transition.specs.Begun.{IsPlain}

-- ---- refusals

-- a plain refusal is right by any history
pub plain-refused : (resync : Option ℕ) (m : Members) (refusal : Refusal) → IsPlain refusal → IsRefusedStill resync m refusal
plain-refused resync m (PastEnd visible) plain = absurd plain
plain-refused resync m (TooManyMissing count most) plain = absurd plain
plain-refused resync m (NotResynced role) plain = absurd plain
plain-refused resync m refusal plain = tt

-- phases are ahead only where a plan was told
pub ahead-told : {Told : Type 0} (ahead : List Phase) (next : Phase) (behind : List Phase) → (ahead ≡ []) ⊎ Told → ahead ≡ next ∷ behind → Told
ahead-told ahead next behind (inl none) is = absurd (let clash : ◌≡◌ {A = List Phase} [] (next ∷ behind) = sym none ∙ is in cc)
ahead-told ahead next behind (inr told) is = told

-- ---- nothing was done

pub plain-stands : {tells : Type 0} {given : Given} {tape : List Operation} {scope : Scope} {first : ℕ} {entries : List Entry} {m : Members} {work : Work} {left : ℕ} (who : Who) (end : ℕ) (refusal : Refusal)
    → IsStill tells given tape scope first entries m work left → IsCallGoing entries who → who.caller ≢ 254 → (tells → end ≡ length tape) → IsPlain refusal
    → IsStill tells given tape scope first (entries ++ entries_of who end (Refused refusal ∷ [])) m work left
plain-stands {tells = tells} {given = given} {tape = tape} {scope = scope} {first = first} {entries = entries} {m = m} {work = work} {left = left} who end refusal was goes caller at_end plain =
    resting-stands tells given tape scope first entries m work left left who end (Refused refusal) was goes (not_254 who.caller caller) at_end
    (record { adds = refl; gives = refl; still = λ x values. refl; level = λ n. refl }) (inl refl)
    (left-lost left left entries who end [] (Refused refusal ∷ []) tt (λ none. refl) was.left_told (λ told is. is))
    (λ t right. refused-right (world_in given tape scope first) entries given m was.members_are.placed work.resync (was.gone t right) (was.levelled t right) (was.pending t) refusal (plain-refused work.resync m refusal plain))

-- ---- the list

-- the list stands where what the holders of roles have is as it was
stood-still : (sound : Type 0) (work : Work) (m : Members) (c e : Contents) (list : ℕ → Sector) → HasNoneRecovering m
    → ((role slot row : ℕ) → holder (role_state (reading_of m) role) ≡ Some slot → e slot (data_offset_of (reading_of m) slot + row) ≡ c slot (data_offset_of (reading_of m) slot + row))
    → HasListStood sound work m c list → HasListStood sound work m e list
stood-still sound work m c e list none same l = record {
  stands = λ row lt role slot below kind held. same role slot row (holder-of (reading_of m) role row slot held) ∙ l.stands row lt role slot below kind held;
  whole = l.whole;
  rows = λ so row low lt. let stands = l.rows so row low lt in record {
    whole = stands.whole;
    sectors = λ role slot below kind held. same role slot row (holder-of (reading_of m) role row slot held) ∙ stands.sectors role slot below kind held;
    parity = λ role slot below parity held. same role slot row (holder-of (reading_of m) role row slot held) ∙ stands.parity role slot below parity held;
  };
  rebuilt = λ so role slot row lt is. absurd (none role slot is);
}

-- no losses stand before it
none-early : AreEarly [] (λ role. ⊥)
none-early = record {
  adds = λ who end tail adds. adds;
  gives = λ who end tail gives. gives;
  lost = λ who end tail role lt has. absurd has;
  ends = λ tail ends. ends;
  level = λ who end tail n. refl;
  values = λ who end tail x values. refl;
}

-- ---- the array

pub fault-stands : {tells : Type 0} {given : Given} {tape tape' : List Operation} {scope : Scope} {first : ℕ} {entries : List Entry} {m : Members} {work : Work} {left : ℕ} (who : Who) (end backup : ℕ) (uuid : List ℕ)
    → IsStill tells given tape scope first entries m work left → HasNoneRecovering m → HasLiveSlot m → IsCallGoing entries who → who.caller ≢ 254 → (tells → end ≡ length tape') → Grows tells tape tape' → IsRisen tells m m tape tape'
    → scope.backup ≡ Some backup → scope.uuid ≡ uuid
    → (tells → (s k : ℕ) → k ≢ 8 → (s ≢ backup) ⊎ (k ≢ 0) → present given tape' s k ≡ present given tape s k)
    → (tells → (world : World) → (told : Ledger) → HasLiveSlot m → world.scope.backup ≡ Some backup → world.scope.uuid ≡ uuid → IsSafeOver world given told m tape → KeepsSafe world given told m tape tape')
    → IsStill tells given tape' scope first (entries ++ entries_of who end (Refused BackupFault ∷ [])) m work left
fault-stands {tells = tells} {given = given} {tape = tape} {tape' = tape'} {scope = scope} {first = first} {entries = entries} {m = m} {work = work} {left = left} who end backup uuid was none live goes caller at_end grows rise there array others safe =
    early-stands tells given tape tape' scope first entries m m work work left left who end [] (λ role. ⊥) (Refused BackupFault) was live goes (not_254 who.caller caller) at_end grows (quiet-refusal BackupFault)
    (moved-same given given m m refl refl was.members_are.placed was.members_are.unlost) none-early (λ role lt miss. inl (lt, miss)) refl refl refl was.progress
    (left-lost left left entries who end [] (Refused BackupFault ∷ []) tt (λ nothing. refl) was.left_told (λ told is. is))
    (λ t does fills. stood-still (OpensFit (world_in given tape scope first)) work m (present given tape) (present given tape') (now (opening_list (world_in given tape scope first)) entries) none (rows t) (was.listed t does fills))
    (λ t. record {
      rise = risen-told rise t;
      keeps = λ told fills more room gone unclean over. safe t (world_in given tape scope first) told live there array over;
      legal = λ all fills gone level. (tt, tt, tt);
    })
  where
    rows : tells → (role slot row : ℕ) → holder (role_state (reading_of m) role) ≡ Some slot
        → present given tape' slot (data_offset_of (reading_of m) slot + row) ≡ present given tape slot (data_offset_of (reading_of m) slot + row)
    rows t role slot row held =
        let far = was.members_are.placed.behind role slot held in
        others t slot (data_offset_of (reading_of m) slot + row) (λ is. absurd (omega (arith, far, is))) (inr (λ is. absurd (omega (arith, far, is))))

-- what is said of an Err holds where there is one
pub err-tape : {T E : Type 0} {P : Type 0} (result : Result T E) → IsErr result → OnErr result P → P
err-tape (Ok x) fails said = absurd (let clash : false ≡ true = fails in cc)
err-tape (Err e) fails said = said
