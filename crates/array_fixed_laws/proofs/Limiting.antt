-- A request to limit how much can be read and written of an array without a reshape: the reply fits it, and what is kept behind it.
use Rattle.std.proofs.Common.{◌≡◌, ◌≢◌, inl, ℕ, ◌*◌, ◌<◌, Bool, true, false, nat_lt, Option, Some, None, List, [], ◌∷◌, ◌++◌, length, refl, sym, ◌∙◌, ap, subst, arith}
use Rattle.std.specs.Prelude.{if◌then◌else◌, MatchOption}
use Rattle.std.specs.Option.{option_map_or}
use Rattle.std.proofs.lemmas.Bool.Decides.{nat_tests}
use Rattle.std.proofs.lemmas.List.Sums.{fold-append}
use Rattle.array_fixed_invariant.specs.raid_types_the_BusyKind_TheVariants.{Plan}
use Rattle.array_specs.specs.raid_types_the_Refusal.{Refusal}
use Rattle.array_specs.specs.raid_types_the_Refusal_TheVariants.{PastSize, Busy}
use Rattle.array_fixed_invariant.specs.raid_types_the_Who.{Who}
use Rattle.array_fixed_invariant.specs.bank_the_Operation.{Operation}
use Rattle.array_fixed_invariant.specs.bank_Given.{Given}
use Rattle.array_fixed_invariant.specs.sb_specs_the_Members.{Members}
use Rattle.array_fixed_invariant.specs.sb_specs_Reading.{Scope, list_length}
use Rattle.array_fixed_invariant.specs.history_the_Entry.{Entry}
use Rattle.array_fixed_invariant.specs.history_the_Event.{Event}
use Rattle.array_fixed_invariant.specs.history_the_Event_TheVariants.{Visible, Refused}
use Rattle.array_fixed_invariant.specs.history_the_Request_TheVariants.{Visible as AsksVisible}
use Rattle.array_fixed_invariant.specs.history_Fits.{Answers, Fits, AreTornOf, IsVisibleRefused, phases_left}
use Rattle.array_fixed_invariant.specs.history_Flat.{next_number, length_after}
use Rattle.array_fixed_invariant.specs.history_Legal.{visible_at, IsRefusedRight}
use Rattle.array_fixed_invariant.specs.history_OneShape.{opening_in, IsOneShapeRefusal}
use Rattle.array_fixed_invariant.specs.history_Plain.{entries_of}
use Rattle.array_fixed_invariant.specs.history_World.{World, until, opening_list}
use Rattle.array_fixed_invariant.specs.array_members_the_Work.{Work}
use Rattle.array_fixed_invariant.specs.array_members_Moving.{Grows}
use Rattle.array_fixed_invariant.proofs.history_append_LeftLaws.{left-more}
use Rattle.array_fixed_invariant.proofs.array_call_specs_NowLaws.{length-more}
use Rattle.array_fixed_invariant.proofs.array_call_specs_ReplyLaws.{none_before}
use Rattle.array_fixed_invariant.specs.reshape_request_the_PhasesLeft.{PhasesLeft}
use Rattle.array_fixed_invariant.specs.history_invariant_Recorded.{IsCallGoing, entry_of}
use Rattle.array_fixed_invariant.specs.history_invariant_Safe.{world_in}
use Rattle.array_fixed_invariant.proofs.history_invariant_Records.{begins-going, until-all}
use Rattle.array_fixed_invariant.specs.Still.{IsStill}
use Rattle.array_fixed_invariant.proofs.Resting.{resting-stands}
use Rattle.array_specs.specs.Parts.{visible_size}
use Rattle.array_specs.specs.Visible.{visible_refusal}
use Rattle.array_specs.proofs.Called.{not_254}
use Rattle.array_specs.proofs.VisibleLaws.{visible-is, limit-behind}
use Rattle.array_fixed_laws.specs.Plain.{MayTellPlainly}
use Rattle.array_fixed_laws.specs.Ready.{IsReady}
use Rattle.array_fixed_laws.proofs.Asking.{refused-alone}
use Rattle.array_fixed_laws.proofs.Kept.{told-still, plainly-more}
use Rattle.array_fixed_laws.proofs.Plain.{IsLeftPlain, turned-plain, turns-behind}
use Rattle.array_fixed_laws.proofs.PlainBehind.{refused-plain}

-- ---- refusals

-- it is refused for a plan, or since the list is shorter
pub visible-so : (P : Refusal → Type 0) (phases size : ℕ) (limit : Option ℕ) (refusal : Refusal) → visible_refusal phases size limit ≡ Some refusal
    → (0 < phases → P (Busy Plan)) → ((wished : ℕ) → limit ≡ Some wished → size < wished → P (PastSize size)) → P refusal
visible-so P phases size limit refusal is busy past = by (nat_lt 0 phases) refl is
  where
    same-refusal : (a : Refusal) → ◌≡◌ {A = Option Refusal} (Some a) (Some refusal) → a ≡ refusal
    same-refusal a e = cc

    below : (a b : ℕ) → nat_lt a b ≡ true → a < b
    below a b e = grind (arith, nat_tests, e)

    beyond : (wished : ℕ) (b : Bool) → nat_lt size wished ≡ b → limit ≡ Some wished → (if b then Some (PastSize size) else None) ≡ Some refusal → P refusal
    beyond wished true more asked told = subst P (same-refusal (PastSize size) told) (past wished asked (below size wished more))
    beyond wished false more asked told = absurd (cc)

    longer : (o : Option ℕ) → limit ≡ o → option_map_or (λ wished. if nat_lt size wished then Some (PastSize size) else None) o None ≡ Some refusal → P refusal
    longer None asked told = absurd (cc)
    longer (Some wished) asked told = beyond wished (nat_lt size wished) refl asked told

    by : (b : Bool) → nat_lt 0 phases ≡ b → (if b then Some (Busy Plan) else option_map_or (λ wished. if nat_lt size wished then Some (PastSize size) else None) limit None) ≡ Some refusal → P refusal
    by true some told = subst P (same-refusal (Busy Plan) told) (busy (below 0 phases some))
    by false some told = longer limit refl told

-- ---- the reply fits

-- what answers it fits it, where the call begins with it
reply-fits : (world : World) (before : List Entry) (who : Who) (end : ℕ) (limit : Option ℕ) (event : Event) → who.number ≡ next_number who.caller before → end ≡ length world.tape
    → Answers world before (entry_of who end event) (AsksVisible limit) event → Fits world before (entry_of who end event) (AsksVisible limit)
reply-fits world before who end limit event number at_end answers = record {
  answers = subst (λ (w : World). Answers w before (entry_of who end event) (AsksVisible limit) event) (sym (ap (λ (n : ℕ). until n world) at_end ∙ until-all world)) answers;
  torn = subst (AreTornOf (AsksVisible limit)) (sym (none_before before who end event number)) tt;
}

module _ {tells : Type 0} {given : Given} {tape : List Operation} {scope : Scope} {first : ℕ} {entries : List Entry} {m : Members} {work : Work} {left : ℕ}
    (who : Who) (end : ℕ) (limit : Option ℕ) (was : IsStill tells given tape scope first entries m work left)
    (number : who.number ≡ next_number who.caller entries) (caller : who.caller ≢ 254) (at_end : tells → end ≡ length tape) where
  abbrev world : World
  world = world_in given tape scope first

  pub visible-fits : (count : ℕ) → tells → Fits (world_in given tape scope first) entries (entry_of who end (Visible limit count)) (AsksVisible limit)
  visible-fits count t = reply-fits (world_in given tape scope first) entries who end limit (Visible limit count) number (at_end t) refl

  pub unlimited-fits : (phases : ℕ) (refusal : Refusal) → visible_refusal phases (list_length m.newest) limit ≡ Some refusal → tells
      → (0 < phases → 0 < phases_left (world_in given tape scope first) entries) → Fits (world_in given tape scope first) entries (entry_of who end (Refused refusal)) (AsksVisible limit)
  unlimited-fits phases refusal is t ahead =
      reply-fits (world_in given tape scope first) entries who end limit (Refused refusal) number (at_end t)
      (visible-so (IsVisibleRefused (world_in given tape scope first) entries end limit) phases (list_length m.newest) limit refusal is ahead
      (λ wished asked more. (sym (was.recorded t).sized, past limit wished asked more)))
    where
      past : (o : Option ℕ) (wished : ℕ) → o ≡ Some wished → list_length m.newest < wished → MatchOption o ⊥ (λ wished. list_length m.newest < wished)
      past None wished asked more = absurd (cc)
      past (Some other) wished asked more = (let same : wished ≡ other = cc in omega (arith, same, more))

  -- ---- what is kept behind it

  -- a refusal
  pub unlimited-stands : (phases size : ℕ) (refusal : Refusal) → visible_refusal phases size limit ≡ Some refusal → IsStill tells given tape scope first (entries ++ entries_of who end (Refused refusal ∷ [])) m work left
  unlimited-stands phases size refusal is = refused-alone who end was number caller at_end refusal
      (λ t right. visible-so (IsRefusedRight (world_in given tape scope first) entries) phases size limit refusal is (λ some. tt) (λ wished asked more. tt))

  -- so many sectors are visible then
  told-visible : (count : ℕ) → count ≡ visible_size m limit → tells → count ≡ visible_at (world_in given tape scope first) (entries ++ entries_of who end (Visible limit count ∷ []))
  told-visible count is t =
      let n = length (opening_list (world_in given tape scope first)) in
      is ∙ sym (visible-is n (list_length m.newest) limit (entries ++ entries_of who end (Visible limit count ∷ []))
      (fold-append (λ n e. length_after n e.event) n entries (entries_of who end (Visible limit count ∷ [])) ∙ (was.recorded t).sized)
      (limit-behind entries who end limit count))

  pub visible-stands : (count : ℕ) → count ≡ visible_size m limit → IsStill tells given tape scope first (entries ++ entries_of who end (Visible limit count ∷ [])) m work left
  visible-stands count is =
      resting-stands tells given tape scope first entries m work left left who end (Visible limit count) was (begins-going entries who number) (not_254 who.caller caller) at_end
      (record { adds = refl; gives = refl; still = λ x values. refl; level = λ n. refl }) (inl refl)
      (left-more left entries who end (Visible limit count ∷ []) was.left_told (λ told is. is))
      (λ t right. told-visible count is t)

-- a refusal is none of a reshape, and is right by the history
pub unlimited-plain : {tells : Type 0} {given : Given} {tape tape' : List Operation} {scope : Scope} {first : ℕ} {entries : List Entry} {m : Members} {work : Work} {ahead : PhasesLeft} {former : Option ℕ}
    {faults : ℕ → ℕ} {steps room rows buffer far_rows far_buffer : ℕ} → IsReady tells given tape scope first entries m work ahead former faults steps room rows buffer far_rows far_buffer
    → (who : Who) (end : ℕ) → IsCallGoing entries who → who.caller ≢ 254 → (tells → end ≡ length tape') → Grows tells tape tape' → (phases size : ℕ) (limit : Option ℕ) (refusal : Refusal)
    → visible_refusal phases size limit ≡ Some refusal → IsLeftPlain tells given tape' scope first entries (entries_of who end (Refused refusal ∷ [])) m
unlimited-plain {given = given} {tape = tape} {scope = scope} {first = first} {entries = entries} was who end goes caller at_end grows phases size limit refusal is =
    refused-plain was who end goes caller at_end grows refusal
    (λ t p. visible-so (IsOneShapeRefusal (opening_in (world_in given tape scope first)) entries) phases size limit refusal is (λ some. tt) (λ wished asked more. tt))
    (visible-so (λ r. MayTellPlainly (Refused r)) phases size limit refusal is (λ some. tt) (λ wished asked more. tt))

pub visible-ready : {tells : Type 0} {given : Given} {tape : List Operation} {scope scope' : Scope} {first first' : ℕ} {entries mid entries' : List Entry} {m : Members} {work : Work} {ahead : PhasesLeft} {former : Option ℕ}
    {faults : ℕ → ℕ} {steps steps' room room' rows buffer far_rows far_buffer : ℕ} (who : Who) (end : ℕ) (limit : Option ℕ) (count : ℕ)
    → IsReady tells given tape scope first entries m work ahead former faults steps room rows buffer far_rows far_buffer
    → who.number ≡ next_number who.caller entries → who.caller ≢ 254 → (tells → end ≡ length tape) → count ≡ visible_size m limit
    → scope' ≡ scope → first' ≡ first → mid ≡ entries → entries' ≡ mid ++ entries_of who end (Visible limit count ∷ []) → 50 * steps' < room'
    → IsReady tells given tape scope' first' entries' m work ahead limit faults steps' room' rows buffer far_rows far_buffer
visible-ready {tells = tells} {given = given} {tape = tape} {scope = scope} {scope' = scope'} {first = first} {first' = first'} {entries = entries} {mid = mid} {entries' = entries'} {m = m} {work = work} {ahead = ahead}
    {faults = faults} {steps' = steps'} {room' = room'} {rows = rows} {buffer = buffer} {far_rows = far_rows} {far_buffer = far_buffer} who end limit count was number caller at_end count_is scope_is first_is mid_is is room_left =
    let added = entries_of who end (Visible limit count ∷ []) in
    subst (λ (l : List Entry). IsReady tells given tape scope' first' l m work ahead limit faults steps' room' rows buffer far_rows far_buffer) (sym (is ∙ ap (λ (l : List Entry). l ++ added) mid_is))
    (subst (λ (n : ℕ). IsReady tells given tape scope' n (entries ++ added) m work ahead limit faults steps' room' rows buffer far_rows far_buffer) (sym first_is)
    (subst (λ (s : Scope). IsReady tells given tape s first (entries ++ added) m work ahead limit faults steps' room' rows buffer far_rows far_buffer) (sym scope_is)
    (record {
      kept = visible-stands who end limit was.kept number caller at_end count count_is;
      sized = length-more (list_length m.newest) entries added was.sized refl;
      limited = limit-behind entries who end limit count;
      planned = was.planned;
      failed = was.failed;
      room_left = room_left;
      rows_fit = was.rows_fit;
      buffer_fits = was.buffer_fits;
      far_rows_fit = was.far_rows_fit;
      far_buffer_fits = was.far_buffer_fits;
      plain = turned.plain;
      plainly = plainly-more entries added (entries ++ added) refl was.plainly turned.plainly;
      ahead_told = told-still ahead entries added was.ahead_told;
    })))
  where
    -- a history of one shape tells no limit
    turned : IsLeftPlain tells given tape scope first entries (entries_of who end (Visible limit count ∷ [])) m
    turned = turned-plain (turns-behind entries (entries_of who end (Visible limit count ∷ [])) refl)
