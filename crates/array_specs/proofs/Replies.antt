-- Replies that fit their requests to an array whose list may be limited: reads and writes that are refused.
use Rattle.std.proofs.Common.{◌≡◌, ℕ, ◌+◌, ◌<◌, ◌≤◌, Bool, true, false, Option, List, [], ◌∷◌, ◌++◌, length, refl, sym, ap, subst}
use Rattle.std.proofs.lemmas.List.Elements.{All-push}
use Rattle.std.specs.List.{All}
use Rattle.std.specs.Prelude.{fold}
use Rattle.array_reshaping_state.specs.raid_types_Sectors.{Sector}
use Rattle.history_invariant_laws.specs.raid_types_the_Who.{Who}
use Rattle.history_invariant_laws.specs.raid_types_the_Refusal.{Refusal}
use Rattle.history_invariant_laws.specs.raid_types_the_Refusal_TheVariants.{PastEnd}
use Rattle.array_reshaping_state.specs.sb_specs_the_Members.{Members}
use Rattle.array_reshaping_state.specs.history_the_Entry.{Entry}
use Rattle.array_reshaping_state.specs.history_the_Event.{Event}
use Rattle.array_reshaping_state.specs.history_the_Event_TheVariants.{Torn, Refused}
use Rattle.array_reshaping_state.specs.history_the_Request.{Request}
use Rattle.array_reshaping_state.specs.history_the_Request_TheVariants.{Read as AsksRead, Write as AsksWrite}
use Rattle.array_reshaping_state.specs.history_Flat.{next_number, visible_of, length_of, limit_of, length_after, limit_after}
use Rattle.array_reshaping_state.specs.history_Fits.{AreTornOf}
use Rattle.array_reshaping_state.specs.history_Plain.{entries_of}
use Rattle.array_reshaping_state.specs.history_OneShape.{OneShapeAnswers}
use Rattle.array_reshaping_state.specs.history_append_Losing.{losses_of, failure_events}
use Rattle.array_reshaping_state.proofs.history_append_PlainLaws.{one}
use Rattle.array_reshaping_state.proofs.history_append_LosingLaws.{entries-both}
use Rattle.array_reshaping_state.proofs.history_append_CallLaws.{losses-are, length-losses, limit-losses, torn-losses, torn-both}
use Rattle.array_reshaping_state.specs.array_call_specs_Calls.{StandsInside, IsReplied, IsRefusedFor}
use Rattle.array_reshaping_state.proofs.array_call_specs_NowLaws.{length-more}
use Rattle.array_reshaping_state.proofs.array_call_specs_ReplyLaws.{replied, inside-losses, none-inside, IsOfMissing, missing_at, past_at}
use Rattle.array_reshaping_state.specs.Left.{visible_by}
use Rattle.array_specs.proofs.VisibleLaws.{visible-is, limit-kept}

-- ---- refusals

-- what a call that transfers up to `to` may be refused with, by the visible size; no call but one of these is refused past the end
pub record IsRefusable (request : Request) (to : ℕ) : Type 0 where
  pub past : (size visible told : ℕ) (before : List Entry) → visible_of size before ≡ visible → visible < to → (call : List Entry) → OneShapeAnswers size before call request (Refused (PastEnd told))
  pub missing : (size visible : ℕ) (refusal : Refusal) (before : List Entry) → visible_of size before ≡ visible → to ≤ visible → IsOfMissing refusal → (call : List Entry) → OneShapeAnswers size before call request (Refused refusal)

pub read_kind : (at count : ℕ) → IsRefusable (AsksRead at count) (at + count)
read_kind at count = record {
  past = λ size visible told before seen lt call. past_at (visible_of size before) (at + count) told (rw seen lt);
  missing = λ size visible refusal before seen le of call. missing_at (visible_of size before) (at + count) refusal (rw seen le) of;
}

pub write_kind : (at : ℕ) (body : List Sector) → IsRefusable (AsksWrite at body) (at + length body)
write_kind at body = record {
  past = λ size visible told before seen lt call. past_at (visible_of size before) (at + length body) told (rw seen lt);
  missing = λ size visible refusal before seen le of call. missing_at (visible_of size before) (at + length body) refusal (rw seen le) of;
}

-- ---- replies

module _ (size : ℕ) (limit : Option ℕ) (old : List Entry) (sized : length_of size old ≡ size) (limited : limit_of old ≡ limit) where
  -- as much is visible behind entries that leave the length and the limit
  pub seen-behind : (added : List Entry) → ((n : ℕ) → fold (λ m e. length_after m e.event) n added ≡ n)
      → ((limit : Option ℕ) → fold (λ (limit : Option ℕ) e. limit_after limit e.event) limit added ≡ limit) → visible_of size (old ++ added) ≡ visible_by size limit
  seen-behind added quiet free = visible-is size size limit (old ++ added) (length-more size old added sized (quiet size)) (limit-kept limit old added limited (free limit))

  pub seen-losses : (who : Who) (end roles spares : ℕ) → visible_of size (old ++ entries_of who end (losses_of roles spares)) ≡ visible_by size limit
  seen-losses who end roles spares = subst (λ (l : List Event). visible_of size (old ++ entries_of who end l) ≡ visible_by size limit) (no-tail (losses_of roles spares))
      (seen-behind (entries_of who end (losses_of roles spares ++ [])) (λ n. length-losses who end (losses_of roles spares) [] (losses-are roles spares) n)
      (λ limit. limit-losses who end (losses_of roles spares) [] (losses-are roles spares) limit))
    where
      no-tail : (xs : List Event) → xs ++ [] ≡ xs
      no-tail [] = refl
      no-tail (x ∷ xs) = ap (λ (l : List Event). x ∷ l) (no-tail xs)

  -- a refusal that needs no entry before it
  pub refused_reply : (request : Request) (who : Who) (to : ℕ) (why : Members → Refusal → Type 0) (new : List Entry) (end : ℕ) (members : Members) (refusal : Refusal) → IsRefusable request to
      → (why members refusal → IsOfMissing refusal) → IsRefusedFor (visible_by size limit) to why members members refusal → new ≡ old ++ entries_of who end (Refused refusal ∷ []) → who.number ≡ next_number who.caller old
      → IsReplied size request who old new (Refused refusal)
  refused_reply request who to why new end members (PastEnd told) kind of w is number =
      replied size request who old new end [] (Refused (PastEnd told)) is number (kind.past size (visible_by size limit) told (old ++ []) (seen-behind [] (λ n. refl) (λ limit. refl)) w.1) none-inside tt
  refused_reply request who to why new end members refusal kind of w is number =
      replied size request who old new end [] (Refused refusal) is number (kind.missing size (visible_by size limit) refusal (old ++ []) (seen-behind [] (λ n. refl) (λ limit. refl)) w.0 (of w.1)) none-inside tt

  -- a refusal behind losses
  pub lost_reply : (request : Request) (who : Who) (to : ℕ) (new : List Entry) (end roles spares : ℕ) (refusal : Refusal) → IsRefusable request to → to ≤ visible_by size limit → IsOfMissing refusal
      → new ≡ old ++ entries_of who end (losses_of roles spares ++ Refused refusal ∷ []) → who.number ≡ next_number who.caller old
      → IsReplied size request who old new (Refused refusal)
  lost_reply request who to new end roles spares refusal kind within of is number =
      replied size request who old new end (losses_of roles spares) (Refused refusal) is number
      (kind.missing size (visible_by size limit) refusal (old ++ entries_of who end (losses_of roles spares)) (seen-losses who end roles spares) within of)
      (inside-losses who end (losses_of roles spares) (losses-are roles spares)) (torn-losses request who end (losses_of roles spares) (losses-are roles spares))

  torn_reply : (who : Who) (at : ℕ) (body : List Sector) (new : List Entry) (end roles spares : ℕ) (refusal : Refusal) → at + length body ≤ visible_by size limit → IsOfMissing refusal
      → new ≡ old ++ entries_of who end ((losses_of roles spares ++ Torn at body ∷ []) ++ Refused refusal ∷ []) → who.number ≡ next_number who.caller old
      → IsReplied size (AsksWrite at body) who old new (Refused refusal)
  torn_reply who at body new end roles spares refusal within of is number =
      replied size (AsksWrite at body) who old new end (losses_of roles spares ++ Torn at body ∷ []) (Refused refusal) is number
      ((write_kind at body).missing size (visible_by size limit) refusal (old ++ entries_of who end (losses_of roles spares ++ Torn at body ∷ []))
      (seen-behind (entries_of who end (losses_of roles spares ++ Torn at body ∷ [])) (λ n. length-losses who end (losses_of roles spares) (Torn at body ∷ []) (losses-are roles spares) n)
      (λ limit. limit-losses who end (losses_of roles spares) (Torn at body ∷ []) (losses-are roles spares) limit)) within of)
      (subst (λ (l : List Entry). All (λ e. StandsInside e.event) l) (sym (entries-both who end (losses_of roles spares) (Torn at body ∷ [])))
      (All-push (λ e. StandsInside e.event) (entries_of who end (losses_of roles spares)) (one who end (Torn at body)) (inside-losses who end (losses_of roles spares) (losses-are roles spares)) tt))
      (subst (λ (l : List Entry). AreTornOf (AsksWrite at body) l) (sym (entries-both who end (losses_of roles spares) (Torn at body ∷ [])))
      (torn-both (AsksWrite at body) (entries_of who end (losses_of roles spares)) (one who end (Torn at body) ∷ [])
      (torn-losses (AsksWrite at body) who end (losses_of roles spares) (losses-are roles spares)) ((refl, refl), tt)))

  pub failed_reply : (torn : Bool) (who : Who) (at : ℕ) (body : List Sector) (new : List Entry) (end roles spares : ℕ) (refusal : Refusal) → at + length body ≤ visible_by size limit → IsOfMissing refusal
      → new ≡ old ++ entries_of who end (failure_events roles spares torn at body refusal) → who.number ≡ next_number who.caller old
      → IsReplied size (AsksWrite at body) who old new (Refused refusal)
  failed_reply true who at body new end roles spares refusal within of is number = torn_reply who at body new end roles spares refusal within of is number
  failed_reply false who at body new end roles spares refusal within of is number =
      lost_reply (AsksWrite at body) who (at + length body) new end roles spares refusal (write_kind at body) within of is number
