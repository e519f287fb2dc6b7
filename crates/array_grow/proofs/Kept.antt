-- What an array without a reshape keeps behind the reply to a request to grow.
use Rattle.std.proofs.Common.{◌≡◌, ◌≢◌, inl, inr, ℕ, ◌+◌, ◌*◌, ◌<◌, ◌≤◌, length, Option, Some, None, List, [], ◌∷◌, ◌++◌, refl, sym, ◌∙◌, subst, arith}
use Rattle.std.specs.Prelude.{Bool, true, false, nat_lt, if◌then◌else◌, IfSome, IfOk, Result, Ok, Err, option_map}
use Rattle.std.proofs.lemmas.Bool.{cases_lt}
use Rattle.std.proofs.lemmas.Bool.Decides.{nat_tests}
use Rattle.array_reply_specs.specs.raid_types_the_Refusal_TheVariants.{NeedBackup, BackupTooSmall}
use Rattle.array_reply_specs.specs.raid_types_the_Who.{Who}
use Rattle.array_reply_specs.specs.raid_types_the_Wish.{Wish}
use Rattle.array_reply_specs.specs.bank_the_Operation.{Operation}
use Rattle.array_reply_specs.specs.bank_Given.{Given, sizes}
use Rattle.array_transition.specs.reshape_plan_Plans.{AreSound}
use Rattle.array_transition.specs.sb_specs_the_Members.{Members}
use Rattle.array_transition.specs.sb_specs_Reading.{Scope, shape_of, list_length}
use Rattle.array_reply_specs.specs.history_the_Entry.{Entry}
use Rattle.array_reply_specs.specs.history_the_Event_TheVariants.{Planned}
use Rattle.array_reply_specs.specs.history_Flat.{next_number}
use Rattle.array_transition.specs.history_Plain.{entries_of}
use Rattle.array_transition.specs.array_members_the_Work.{Work}
use Rattle.array_reply_specs.proofs.history_append_LeftLaws.{fold-left}
use Rattle.array_reply_specs.proofs.array_call_specs_NowLaws.{length-more}
use Rattle.array_transition.specs.reshape_request_the_PhasesLeft.{PhasesLeft}
use Rattle.array_transition.specs.reshape_request_Asked.{Asked, window_for, grow_refusal}
use Rattle.array_transition.specs.reshape_request_Left.{phases_of}
use Rattle.array_transition.proofs.history_invariant_Records.{begins-going}
use Rattle.array_transition.specs.array_fixed_invariant_Still.{IsStill}
use Rattle.array_transition.proofs.array_fixed_invariant_Resting.{resting-stands}
use Rattle.array_transition.specs.array_specs_Parts.{still_left}
use Rattle.array_transition.proofs.array_specs_Called.{not_254}
use Rattle.array_transition.proofs.array_specs_VisibleLaws.{limit-kept}
use Rattle.array_transition.specs.array_fixed_laws_Ready.{IsReady}
use Rattle.array_transition.proofs.array_fixed_laws_Kept.{plainly-more}
use Rattle.array_transition.proofs.array_fixed_laws_Plain.{IsLeftPlain, turned-plain, turns-behind}
use Rattle.array_grow.specs.Planned.{HasWideBackup}
use Rattle.array_grow.proofs.Idle.{nothing-against}

-- ---- the plan is entered

pub planned-stands : {tells : Type 0} {given : Given} {tape : List Operation} {scope : Scope} {first : ℕ} {entries : List Entry} {m : Members} {work : Work} {before : ℕ} (who : Who) (end : ℕ) (wish : Wish) (left : ℕ)
    → IsStill tells given tape scope first entries m work before → who.number ≡ next_number who.caller entries → who.caller ≢ 254 → (tells → end ≡ length tape)
    → IsStill tells given tape scope first (entries ++ entries_of who end (Planned left wish ∷ [])) m work left
planned-stands {tells = tells} {given = given} {tape = tape} {scope = scope} {first = first} {entries = entries} {m = m} {work = work} {before = before} who end wish left was number caller at_end =
    resting-stands tells given tape scope first entries m work before left who end (Planned left wish) was (begins-going entries who number) (not_254 who.caller caller) at_end
    (record { adds = refl; gives = refl; still = λ x values. refl; level = λ n. refl }) (inl refl)
    (subst (λ (o : Option ℕ). IfSome o (λ n. n ≡ left)) (sym (fold-left None entries (entries_of who end (Planned left wish ∷ [])))) refl)
    (λ t right. tt)

pub planned-ready : {tells : Type 0} {given : Given} {tape : List Operation} {scope scope' : Scope} {first first' : ℕ} {entries entries' : List Entry} {m : Members} {work : Work} {ahead ahead' : PhasesLeft} {limit : Option ℕ}
    {faults : ℕ → ℕ} {steps steps' room room' rows buffer far_rows far_buffer : ℕ} (who : Who) (end : ℕ) (wish : Wish) (left : ℕ)
    → IsReady tells given tape scope first entries m work ahead limit faults steps room rows buffer far_rows far_buffer
    → who.number ≡ next_number who.caller entries → who.caller ≢ 254 → (tells → end ≡ length tape)
    → AreSound (shape_of m.newest) m.newest.size (phases_of ahead') → left ≡ still_left work m ahead'
    → scope' ≡ scope → first' ≡ first → entries' ≡ entries ++ entries_of who end (Planned left wish ∷ []) → 50 * steps' < room'
    → IsReady tells given tape scope' first' entries' m work ahead' limit faults steps' room' rows buffer far_rows far_buffer
planned-ready {tells = tells} {given = given} {tape = tape} {scope = scope} {scope' = scope'} {first = first} {first' = first'} {entries = entries} {entries' = entries'} {m = m} {work = work} {ahead' = ahead'} {limit = limit}
    {faults = faults} {steps' = steps'} {room' = room'} {rows = rows} {buffer = buffer} {far_rows = far_rows} {far_buffer = far_buffer} who end wish left was number caller at_end sound left_is scope_is first_is is room_left =
    subst (λ (l : List Entry). IsReady tells given tape scope' first' l m work ahead' limit faults steps' room' rows buffer far_rows far_buffer) (sym is)
    (subst (λ (n : ℕ). IsReady tells given tape scope' n (entries ++ entries_of who end (Planned left wish ∷ [])) m work ahead' limit faults steps' room' rows buffer far_rows far_buffer) (sym first_is)
    (subst (λ (s : Scope). IsReady tells given tape s first (entries ++ entries_of who end (Planned left wish ∷ [])) m work ahead' limit faults steps' room' rows buffer far_rows far_buffer) (sym scope_is)
    (record {
      kept = subst (λ (n : ℕ). IsStill tells given tape scope first (entries ++ entries_of who end (Planned left wish ∷ [])) m work n) left_is (planned-stands who end wish left was.kept number caller at_end);
      sized = length-more (list_length m.newest) entries (entries_of who end (Planned left wish ∷ [])) was.sized refl;
      limited = limit-kept limit entries (entries_of who end (Planned left wish ∷ [])) was.limited refl;
      planned = sound;
      failed = was.failed;
      room_left = room_left;
      rows_fit = was.rows_fit;
      buffer_fits = was.buffer_fits;
      far_rows_fit = was.far_rows_fit;
      far_buffer_fits = was.far_buffer_fits;
      plain = turned.plain;
      plainly = plainly-more entries (entries_of who end (Planned left wish ∷ [])) (entries ++ entries_of who end (Planned left wish ∷ [])) refl was.plainly turned.plainly;
      ahead_told = inr (turns-behind entries (entries_of who end (Planned left wish ∷ [])) refl);
    })))
  where
    -- a plan turns the shape
    turned : IsLeftPlain tells given tape scope first entries (entries_of who end (Planned left wish ∷ [])) m
    turned = turned-plain (turns-behind entries (entries_of who end (Planned left wish ∷ [])) refl)

-- ---- its backup

lesser : (a b : ℕ) → (a < b → ⊥) → b ≤ a
lesser a b none = elim (cases_lt a b) [
  | inl lt ↦ absurd (none lt)
  | inr ge ↦ ge
]

known : (slots sectors want : ℕ) (b : Bool) → 0 < want → want ≤ (if b then sectors else 0) → (b ≡ true) × (want ≤ sectors)
known slots sectors want true some le = (refl, le)
known slots sectors want false some le = absurd (omega (arith, some, le))

pub is-below : (a b : ℕ) → nat_lt a b ≡ true → a < b
is-below a b e = grind (arith, nat_tests, e)

pub wide-backup : (given : Given) (backup : Option ℕ) (a : Asked) (wish : Wish) → a.backup ≡ option_map (sizes given).sectors backup → grow_refusal a wish ≡ None → HasWideBackup given backup (window_for a wish)
wide-backup given backup a wish same none some = by backup a.backup refl same
  where
    by : (o have : Option ℕ) → a.backup ≡ have → have ≡ option_map (sizes given).sectors o → (slot : ℕ) × (o ≡ Some slot) × (slot < given.slots) × (8 + window_for a wish ≤ given.sectors slot)
    by None have is e = absurd (nothing-against a wish none NeedBackup (is ∙ e, some))
    by (Some slot) None is e = absurd (cc)
    by (Some slot) (Some n) is e =
        let long : n ≡ (if nat_lt slot given.slots then given.sectors slot else 0) = cc in
        let enough : 8 + window_for a wish ≤ n = lesser n (8 + window_for a wish) (λ short. nothing-against a wish none (BackupTooSmall n (8 + window_for a wish)) (is, refl, short)) in
        let there = known given.slots (given.sectors slot) (8 + window_for a wish) (nat_lt slot given.slots) (omega arith) (omega (arith, enough, long)) in
        (slot, refl, is-below slot given.slots there.0, there.1)

-- ---- an answer

-- what follows of the value of an Ok
pub ok-map : {T E : Type 0} (r : Result T E) (P Q : T → Type 0) → ((v : T) → P v → Q v) → IfOk r P → IfOk r Q
ok-map (Ok v) P Q f is = f v is
ok-map (Err e) P Q f is = tt
