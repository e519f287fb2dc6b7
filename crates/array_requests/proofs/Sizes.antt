-- Replies to a running array by how long its list was earlier.
use Rattle.std.proofs.Common.{◌≡◌, ◌⊎◌, inl, inr, ℕ, ◌+◌, min, List, ◌++◌, length, sym, ◌∙◌, ap, subst}
use Rattle.std.proofs.lemmas.List.Sums.{fold-append}
use Rattle.std.specs.Option.{option_map_or}
use Rattle.array_call_specs.specs.raid_types_the_Refusal_TheVariants.{TooManyMissing, NoSuchRole, NoSuchSlot, SlotTaken, SlotTooSmall, SlotFault, Nothing}
use Rattle.history_append.specs.history_the_Entry.{Entry}
use Rattle.history_append.specs.history_the_Event.{Event}
use Rattle.history_append.specs.history_the_Event_TheVariants.{Stepped, Refused}
use Rattle.history_append.specs.history_the_Request.{Request}
use Rattle.history_append.specs.history_the_Request_TheVariants.{Read as AsksRead, Write as AsksWrite, Flush as AsksFlush, Fail as AsksFail, Add as AsksAdd, Visible as AsksVisible, Grow as AsksGrow, Steps as AsksSteps, Show as AsksShow}
use Rattle.history_append.specs.history_Fits.{IsReadRefused, IsWriteRefused}
use Rattle.history_append.specs.history_Flat.{length_after, length_of, limit_of, visible_of}
use Rattle.history_append.specs.history_Legal.{call_before}
use Rattle.history_append.specs.history_Transfers.{IsRefusedAt}
use Rattle.array_open.specs.array_reply_specs_Replies.{MayRefuseGrow, MayRefuseLimit, RunningAnswers, RunningFits}
use Rattle.array_requests.proofs.Leaving.{tells-or-leaves}

-- by a length and by the one that more entries make of it, a history tells the same
pub length-since : (size long : ℕ) (old more : List Entry) → long ≡ length_of size more → length_of size (old ++ more) ≡ length_of long (old ++ more)
length-since size long old more is = of (tells-or-leaves more)
  where
    both : (n : ℕ) → length_of n (old ++ more) ≡ length_of (length_of n old) more
    both n = fold-append (λ (n : ℕ) (e : Entry). length_after n e.event) n old more

    of : ((n : ℕ) → length_of n more ≡ n) ⊎ ((n m : ℕ) → length_of n more ≡ length_of m more) → length_of size (old ++ more) ≡ length_of long (old ++ more)
    of (inl leaves) = ap (λ (n : ℕ). length_of n (old ++ more)) (sym (is ∙ leaves size))
    of (inr tells) = both size ∙ tells (length_of size old) (length_of long old) ∙ sym (both long)

visible-alike : (a b : ℕ) (entries : List Entry) → length_of a entries ≡ length_of b entries → visible_of a entries ≡ visible_of b entries
visible-alike a b entries is = ap (λ (n : ℕ). option_map_or (λ limit. min limit n) (limit_of entries) n) is

-- a reply answers a request by either, where these tell the same
answers-alike : (a b : ℕ) (before call : List Entry) (request : Request) (event : Event) → length_of a before ≡ length_of b before → RunningAnswers a before call request event → RunningAnswers b before call request event
answers-alike a b before call (AsksRead at count) (Refused refusal) is was = subst (λ (n : ℕ). IsRefusedAt n (at + count) IsReadRefused refusal) (visible-alike a b before is) was
answers-alike a b before call (AsksRead at count) event is was = was
answers-alike a b before call (AsksWrite at body) (Refused refusal) is was = subst (λ (n : ℕ). IsRefusedAt n (at + length body) IsWriteRefused refusal) (visible-alike a b before is) was
answers-alike a b before call (AsksWrite at body) event is was = was
answers-alike a b before call AsksFlush (Refused (TooManyMissing count most)) is was = was
answers-alike a b before call AsksFlush (Refused refusal) is was = absurd was
answers-alike a b before call AsksFlush event is was = was
answers-alike a b before call (AsksFail role) (Refused (NoSuchRole asked)) is was = was
answers-alike a b before call (AsksFail role) (Refused refusal) is was = absurd was
answers-alike a b before call (AsksFail role) event is was = was
answers-alike a b before call (AsksAdd slot) (Refused (NoSuchSlot asked)) is was = was
answers-alike a b before call (AsksAdd slot) (Refused (SlotTaken taken)) is was = was
answers-alike a b before call (AsksAdd slot) (Refused (SlotTooSmall have want)) is was = was
answers-alike a b before call (AsksAdd slot) (Refused (SlotFault failed)) is was = was
answers-alike a b before call (AsksAdd slot) (Refused (TooManyMissing count most)) is was = was
answers-alike a b before call (AsksAdd slot) (Refused refusal) is was = absurd was
answers-alike a b before call (AsksAdd slot) event is was = was
answers-alike a b before call (AsksSteps most) (Stepped done left ended) is was = was
answers-alike a b before call (AsksSteps most) (Refused Nothing) is was = was
answers-alike a b before call (AsksSteps most) event is was = absurd was
answers-alike a b before call (AsksGrow wish) (Refused refusal) is was = subst (λ (n : ℕ). MayRefuseGrow n refusal) (visible-alike a b before is) was
answers-alike a b before call (AsksGrow wish) event is was = was
answers-alike a b before call (AsksVisible limit) (Refused refusal) is was = subst (λ (n : ℕ). MayRefuseLimit n limit refusal) is was
answers-alike a b before call (AsksVisible limit) event is was = was
answers-alike a b before call AsksShow event is was = absurd was

-- so it fits by either
pub fits-since : (a b : ℕ) (old inner : List Entry) (e : Entry) (request : Request) → length_of a old ≡ length_of b old → RunningFits a (old ++ inner) e request → RunningFits b (old ++ inner) e request
fits-since a b old inner e request is was = record {
  answers = answers-alike a b (old ++ inner) (call_before (old ++ inner) e) request e.event (both a ∙ ap (λ (n : ℕ). length_of n inner) is ∙ sym (both b)) was.answers;
  torn = was.torn;
}
  where
    both : (n : ℕ) → length_of n (old ++ inner) ≡ length_of (length_of n old) inner
    both n = fold-append (λ (n : ℕ) (e : Entry). length_after n e.event) n old inner
