-- A takeover that is refused leaves the array as it was.
use Rattle.std.proofs.Common.{◌≡◌, ◌≢◌, inl, inr, ℕ, Option, List, [], ◌∷◌, ◌++◌, length, refl, sym, subst}
use Rattle.array_takeover_laws.specs.raid_types_the_Refusal.{Refusal}
use Rattle.array_takeover_laws.specs.raid_types_the_Who.{Who}
use Rattle.array_takeover_laws.specs.raid_types_the_Shape.{Shape}
use Rattle.array_fixed_sync.specs.bank_the_Operation.{Operation}
use Rattle.array_fixed_sync.specs.bank_Given.{Given}
use Rattle.array_fixed_sync.specs.sb_specs_the_Members.{Members}
use Rattle.array_fixed_sync.specs.sb_specs_Reading.{Scope}
use Rattle.array_fixed_sync.specs.history_the_Entry.{Entry}
use Rattle.array_fixed_sync.specs.history_the_Event_TheVariants.{Refused}
use Rattle.array_fixed_sync.specs.history_Plain.{entries_of}
use Rattle.array_fixed_sync.specs.array_members_the_Work.{Work}
use Rattle.array_fixed_sync.proofs.array_call_specs_KeptLaws.{left-lost}
use Rattle.array_fixed_sync.specs.history_invariant_Recorded.{IsCallGoing}
use Rattle.array_fixed_sync.specs.history_invariant_Safe.{world_in}
use Rattle.array_fixed_sync.proofs.array_specs_Called.{not_254}
use Rattle.array_fixed_sync.specs.array_fixed_invariant_Still.{IsStill}
use Rattle.array_fixed_sync.proofs.array_fixed_invariant_Refusals.{IsRefusedStill, refused-right}
use Rattle.array_fixed_sync.proofs.array_fixed_invariant_Resting.{resting-stands}
use Rattle.array_takeover.specs.TakenOver.{IsUntaken}

-- the refusal is right by any history
untaken-right : (resync : Option ℕ) (m : Members) (to : Shape) (refusal : Refusal) → IsUntaken m to refusal → IsRefusedStill resync m refusal
untaken-right resync m to refusal (inl (role, first, is)) = subst (IsRefusedStill resync m) (sym is) tt
untaken-right resync m to refusal (inr (whole, six, none, is)) = subst (IsRefusedStill resync m) (sym is) tt

pub untaken-stands : {tells : Type 0} {given : Given} {tape : List Operation} {scope : Scope} {first : ℕ} {entries : List Entry} {m : Members} {work : Work} {left : ℕ} (who : Who) (end : ℕ) (to : Shape) (refusal : Refusal)
    → IsStill tells given tape scope first entries m work left → IsCallGoing entries who → who.caller ≢ 254 → (tells → end ≡ length tape) → IsUntaken m to refusal
    → IsStill tells given tape scope first (entries ++ entries_of who end (Refused refusal ∷ [])) m work left
untaken-stands {tells = tells} {given = given} {tape = tape} {scope = scope} {first = first} {entries = entries} {m = m} {work = work} {left = left} who end to refusal was goes caller at_end why =
    resting-stands tells given tape scope first entries m work left left who end (Refused refusal) was goes (not_254 who.caller caller) at_end
    (record { adds = refl; gives = refl; still = λ x values. refl; level = λ n. refl }) (inl refl)
    (left-lost left left entries who end [] (Refused refusal ∷ []) tt (λ none. refl) was.left_told (λ told is. is))
    (λ t right. refused-right (world_in given tape scope first) entries given m was.members_are.placed work.resync (was.gone t right) (was.levelled t right) (was.pending t) refusal (untaken-right work.resync m to refusal why))
