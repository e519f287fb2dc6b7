-- Each write of a run stands inside an epoch, or is of a create line.
use Rattle.std.proofs.Common.{◌≡◌, ◌⊎◌, inl, inr, ℕ, zero, suc, ◌<◌, ◌≤◌, Bool, true, false, Option, Some, Result, Ok, Err, List, [], ◌∷◌, ◌++◌, length, refl, sym, ◌∙◌, ap, subst, arith, append-nil, length-append}
use Rattle.std.proofs.lemmas.Option.{slice_get_within}
use Rattle.std.proofs.lemmas.List.{map-append}
use Rattle.std.specs.Prelude.{slice_get}
use Rattle.std.specs.Global.{Vec}
use Rattle.std.specs.Option.{option_map_or}
use Rattle.run_specs.specs.raid_types_Sectors.{Sector}
use Rattle.run_specs.specs.raid_types_the_NoMemory.{NoMemory}
use Rattle.run_specs.specs.raid_types_the_Who.{Who}
use Rattle.run_specs.specs.raid_types_the_Fault_TheVariants.{Refused as IsRefusedWith, NoMemory as WantsMemory}
use Rattle.run_specs.specs.raid_types_the_Refusal.{Refusal}
use Rattle.run_specs.specs.raid_types_the_Refusal_TheVariants.{SlotFault, UuidInUse}
use Rattle.run_specs.specs.bank_Given.{Given}
use Rattle.run_specs.specs.bank_Tape.{Contents, AreFlushes}
use Rattle.run_specs.specs.bank_the_Operation.{Operation}
use Rattle.run_specs.specs.bank_the_Operation_TheVariants.{Write, Flush}
use Rattle.run_specs.specs.history_the_Entry.{Entry}
use Rattle.run_specs.specs.history_the_Epoch.{Epoch}
use Rattle.run_specs.specs.history_the_Event.{Event}
use Rattle.run_specs.proofs.history_OneShapeLegal.{last-snoc}
use Rattle.run_specs.specs.history_Transfers.{last_end_from}
use Rattle.run_specs.specs.array_members_Flushing.{OnlyFlushesAdded}
use Rattle.run_specs.specs.array_members_Moving.{Grows}
use Rattle.run_specs.specs.array_specs_Parts.{RunningParts}
use Rattle.run_specs.specs.array_call_specs_Calls.{IsEntered}
use Rattle.run_specs.specs.array_create_assemble_Creating.{create_refusal}
use Rattle.run_specs.specs.array_create_assemble_Filling.{AreBelow, OnlyBelow}
use Rattle.run_specs.specs.array_create_assemble_Made.{HasCreateCause}
use Rattle.run_specs.specs.script_the_CreateLine.{CreateLine}
use Rattle.run_specs.specs.script_the_Line.{Line}
use Rattle.run_specs.specs.script_the_Line_TheVariants.{Create}
use Rattle.run_specs.specs.declared.report.Outside.TheVariants.{Refused}
use Rattle.run_specs.specs.declared.report.Answered.{Answered}
use Rattle.run_specs.specs.declared.report.Answered.TheVariants.{Outside as IsOutside}
use Rattle.run_specs.specs.declared.states.State.{State}
use Rattle.run_specs.specs.declared.states.State.TheVariants.{Idle, Running}
use Rattle.run_specs.specs.Ended.{IsGoing, IsRunKept}
use Rattle.run_specs.specs.Histories.{History, history_of, histories_of}
use Rattle.run_specs.specs.Making.{Setting, setting_of}
use Rattle.run_specs.specs.Replies.{spec_of}
use Rattle.run_specs.specs.States.{running_history, histories_in, bank_in}
use Rattle.run_specs.specs.Written.{IsWithin, IsInEpoch, MayWrite, HasWritten, AreSpans, IsWritten, IsWrittenBy}
use Rattle.run_specs.proofs.array_members_SafeStretch.{grows-longer}

-- ---- inside an epoch

pub in-front : (hs more : List History) (mark : ℕ) → IsInEpoch hs mark → IsInEpoch (hs ++ more) mark
in-front [] more mark is = absurd is
in-front (h ∷ hs) more mark (inl here) = inl here
in-front (h ∷ hs) more mark (inr there) = inr (in-front hs more mark there)

pub in-last : (hs : List History) (h : History) (mark : ℕ) → IsWithin h mark → IsInEpoch (hs ++ h ∷ []) mark
in-last [] h mark is = inl is
in-last (x ∷ hs) h mark is = inr (in-last hs h mark is)

in-either : (hs : List History) (h : History) (mark : ℕ) → IsInEpoch (hs ++ h ∷ []) mark → IsInEpoch hs mark ⊎ IsWithin h mark
in-either [] h mark (inl here) = inr here
in-either [] h mark (inr there) = absurd there
in-either (x ∷ hs) h mark (inl here) = inl (inl here)
in-either (x ∷ hs) h mark (inr there) = by_rest (in-either hs h mark there)
  where
    by_rest : IsInEpoch hs mark ⊎ IsWithin h mark → IsInEpoch (x ∷ hs) mark ⊎ IsWithin h mark
    by_rest (inl is) = inl (inr is)
    by_rest (inr is) = inr is

spans-append : (low : ℕ) (hs more : List History) → AreSpans low hs → AreSpans low more → AreSpans low (hs ++ more)
spans-append low [] more was next = next
spans-append low (h ∷ hs) more (one, rest) next = (one, spans-append low hs more rest next)

spans-front : (low : ℕ) (hs more : List History) → AreSpans low (hs ++ more) → AreSpans low hs
spans-front low [] more was = tt
spans-front low (h ∷ hs) more (one, rest) = (one, spans-front low hs more rest)

pub spans-back : (low : ℕ) (hs more : List History) → AreSpans low (hs ++ more) → AreSpans low more
spans-back low [] more was = was
spans-back low (h ∷ hs) more (one, rest) = spans-back low hs more rest

spans-later : (a b : ℕ) (hs : List History) → a ≤ b → AreSpans b hs → AreSpans a hs
spans-later a b [] le was = tt
spans-later a b (h ∷ hs) le ((begun, lasts), rest) = ((omega (arith, le, begun), lasts), spans-later a b hs le rest)

-- ---- what was added to the tape

-- no operation stands behind the end
pub none-behind : (tape : List Operation) (mark : ℕ) (op : Operation) → length tape ≤ mark → slice_get tape mark ≡ Some op → ⊥
none-behind tape mark op le is = absurd (omega (arith, le, slice_get_within tape mark op is))

write-below : (n : ℕ) (ops : List Operation) (mark slot at : ℕ) (body : Sector) → AreBelow n ops → slice_get ops mark ≡ Some (Write slot at body) → slot < n
write-below n [] mark slot at body below is = absurd (omega (arith, slice_get_within [] mark (Write slot at body) is))
write-below n (Write t j w ∷ ops) zero slot at body (lt, below) is = subst (λ (s : ℕ). s < n) (same_slot is) lt
  where
    same_slot : Some (Write t j w) ≡ Some (Write slot at body) → t ≡ slot
    same_slot is = cc
write-below n (Write t j w ∷ ops) (suc mark) slot at body (lt, below) is = write-below n ops mark slot at body below is
write-below n (Flush t ∷ ops) zero slot at body below is = absurd (cc)
write-below n (Flush t ∷ ops) (suc mark) slot at body below is = write-below n ops mark slot at body below is

added-below : (n : ℕ) (old ops : List Operation) (mark slot at : ℕ) (body : Sector) → AreBelow n ops → length old ≤ mark → slice_get (old ++ ops) mark ≡ Some (Write slot at body) → slot < n
added-below n [] ops mark slot at body below le is = write-below n ops mark slot at body below is
added-below n (op ∷ old) ops zero slot at body below le is = absurd (omega (arith, le))
added-below n (op ∷ old) ops (suc mark) slot at body below le is = added-below n old ops mark slot at body below (omega (arith, le)) is

flushes-below : (ops : List Operation) → AreFlushes ops → AreBelow 0 ops
flushes-below [] is = tt
flushes-below (Flush t ∷ ops) is = flushes-below ops is
flushes-below (Write t j w ∷ ops) is = absurd is

-- ---- one line

module _ (setting : Setting) (old : List Operation) (began : setting.began ≡ length old) (olds more : List History) (spans : AreSpans setting.began more) (May : ℕ → Type 0) where
  -- only the first so many slots were written, which may be
  pub written-below : (n : ℕ) → OnlyBelow n old setting.tape → ((slot : ℕ) → slot < n → May slot) → IsWritten setting olds (olds ++ more) May
  written-below n (ops, below, is) may = record {
    spans = λ low le was. spans-append low olds more was (spans-later low setting.began more le spans);
    kept = λ mark inside. in-front olds more mark inside;
    placed = λ mark slot at body from there. inr (may slot (added-below n old ops mark slot at body below (omega (arith, began, from)) (ap (λ (l : List Operation). slice_get l mark) (sym is) ∙ there)));
  }

  -- none was
  pub written-flushes : OnlyFlushesAdded old setting.tape → IsWritten setting olds (olds ++ more) May
  written-flushes (ops, flushes, is) = written-below 0 (ops, flushes-below ops flushes, is) (λ slot lt. absurd (omega (arith, lt)))

-- nothing was done
pub written-nothing : (setting : Setting) (hs : List History) (May : ℕ → Type 0) → length setting.tape ≤ setting.began → IsWritten setting hs hs May
written-nothing setting hs May le = record {
  spans = λ low early was. was;
  kept = λ mark inside. inside;
  placed = λ mark slot at body from there. absurd (omega (arith, le, from, slice_get_within setting.tape mark (Write slot at body) there));
}

-- the last history went on, up to where the tape ends
pub written-inside : (setting : Setting) (hs : List History) (old new : History) (May : ℕ → Type 0) → new.first ≡ old.first → old.first ≤ setting.began → setting.began ≤ length setting.tape
    → last_end_from old.first old.entries ≡ setting.began → last_end_from new.first new.entries ≡ length setting.tape → IsWritten setting (hs ++ old ∷ []) (hs ++ new ∷ []) May
written-inside setting hs old new May first begun longer was ended = record {
  spans = λ low le spans. let one = (spans-back low hs (old ∷ []) spans).0 in
      spans-append low hs (new ∷ []) (spans-front low hs (old ∷ []) spans) ((omega (arith, first, one.0), omega (arith, first, begun, longer, ended)), tt);
  kept = λ mark inside. by_either mark (in-either hs old mark inside);
  placed = λ mark slot at body from there. inl (in-last hs new mark (record {
    begun = omega (arith, first, begun, from);
    unended = omega (arith, ended, slice_get_within setting.tape mark (Write slot at body) there);
  }));
}
  where
    by_either : (mark : ℕ) → IsInEpoch hs mark ⊎ IsWithin old mark → IsInEpoch (hs ++ new ∷ []) mark
    by_either mark (inl is) = in-front hs (new ∷ []) mark is
    by_either mark (inr is) = in-last hs new mark (record { begun = omega (arith, first, is.begun); unended = omega (arith, is.unended, was, longer, ended) })

-- by any answer
pub written-any : (setting : Setting) (running : Bool) (olds news : List History) (line : Line) (r : Result Answered NoMemory) → IsWritten setting olds news (λ slot. ⊥) → IsWrittenBy setting running olds news line r
written-any setting running olds news line (Ok what) was = record { spans = was.spans; kept = was.kept; placed = λ mark slot at body from there. by_place mark slot (was.placed mark slot at body from there) }
  where
    by_place : (mark slot : ℕ) → IsInEpoch news mark ⊎ ⊥ → IsInEpoch news mark ⊎ HasWritten setting.given setting.backup line what slot
    by_place mark slot (inl is) = inl is
    by_place mark slot (inr is) = absurd is
written-any setting running olds news line (Err fault) was = record { spans = was.spans; kept = was.kept; placed = λ mark slot at body from there. by_place mark slot (was.placed mark slot at body from there) }
  where
    by_place : (mark slot : ℕ) → IsInEpoch news mark ⊎ ⊥ → IsInEpoch news mark ⊎ MayWrite setting.given setting.backup running line slot
    by_place mark slot (inl is) = inl is
    by_place mark slot (inr is) = absurd is

-- ---- by the state of the run

-- the last entry ends where the last one of the history does
last_end-snoc : (first : ℕ) (xs : List Entry) (e : Entry) → last_end_from first (xs ++ e ∷ []) ≡ e.end
last_end-snoc first xs e = ap (λ (o : Option Entry). option_map_or (λ (x : Entry). x.end) o first) (last-snoc xs e)

pub entered_end : {tells : Type 0} {tape : List Operation} {old new : List Entry} (first : ℕ) (who : Who) (event : Event) → IsEntered tells tape who old new (event ∷ []) → tells → last_end_from first new ≡ length tape
entered_end {old = old} first who event entered t =
    ap (λ (l : List Entry). last_end_from first l) entered.is ∙ last_end-snoc first old (record { caller = who.caller; number = who.number; end = entered.end; event = event }) ∙ entered.at_end t

-- the array that runs goes on
pub written_going : {B : Type 0} (tells : Type 0) (given : Given) (tape : B → List Operation) (backup : Option ℕ) (faults : B → ℕ → ℕ) (old new : RunningParts B) (epochs : Vec Epoch) (state : State B) (line : Line) (r : Result Answered NoMemory)
    → state ≡ Running new epochs → new.parts.first ≡ old.parts.first → Grows tells (tape old.parts.bank) (tape new.parts.bank) → IsGoing tells given (tape old.parts.bank) backup old.parts epochs.items → IsRunKept tells given (tape (bank_in state)) backup state
    → tells → IsWrittenBy (setting_of tells given (tape old.parts.bank) (tape (bank_in state)) backup (faults old.parts.bank) (faults (bank_in state))) true (histories_in (Running old epochs)) (histories_in state) line r
written_going {B = B} tells given tape backup faults old new epochs state line r is first grows was kept t =
    subst (λ (s : State B). IsWrittenBy (setting_of tells given (tape old.parts.bank) (tape (bank_in s)) backup (faults old.parts.bank) (faults (bank_in s))) true (histories_in (Running old epochs)) (histories_in s) line r) (sym is)
    (written-any (setting_of tells given (tape old.parts.bank) (tape new.parts.bank) backup (faults old.parts.bank) (faults new.parts.bank)) true (histories_in (Running old epochs)) (histories_in (Running new epochs)) line r
    (written-inside (setting_of tells given (tape old.parts.bank) (tape new.parts.bank) backup (faults old.parts.bank) (faults new.parts.bank)) (histories_of epochs.items) (running_history old.parts) (running_history new.parts) (λ slot. ⊥)
    first (was.begun t) (grows-longer grows t) (was.ended t) (going.ended t)))
  where
    going : IsGoing tells given (tape new.parts.bank) backup new.parts epochs.items
    going = subst (λ (s : State B). IsRunKept tells given (tape (bank_in s)) backup s) is kept

-- the array that ran has ended
pub written_ended : {B : Type 0} (setting : Setting) (old : RunningParts B) (bank : B) (epoch : Epoch) (epochs ended : Vec Epoch) (May : ℕ → Type 0) → ended.items ≡ epochs.items ++ epoch ∷ [] → epoch.first ≡ old.parts.first → old.parts.first ≤ setting.began → setting.began ≤ length setting.tape
    → last_end_from old.parts.first old.parts.entries ≡ setting.began → last_end_from epoch.first epoch.entries.items ≡ length setting.tape → IsWritten setting (histories_in (Running old epochs)) (histories_in (Idle bank ended)) May
written_ended setting old bank epoch epochs ended May items first begun longer was now =
    subst (λ (l : List Epoch). IsWritten setting (histories_in (Running old epochs)) (histories_of l) May) (sym items)
    (subst (λ (l : List History). IsWritten setting (histories_in (Running old epochs)) l May) (sym (map-append history_of epochs.items (epoch ∷ [])))
    (written-inside setting (histories_of epochs.items) (running_history old.parts) (history_of epoch) May first begun longer was now))

-- no array runs, and nothing was done
pub written_idle : (setting : Setting) (olds news : List Epoch) (May : ℕ → Type 0) → news ≡ olds → length setting.tape ≤ setting.began → IsWritten setting (histories_of olds) (histories_of news) May
written_idle setting olds news May same le = subst (λ (l : List Epoch). IsWritten setting (histories_of olds) (histories_of l) May) (sym same) (written-nothing setting (histories_of olds) May le)

module _ (setting : Setting) (old : List Operation) (began : setting.began ≡ length old) (olds news : List Epoch) (same : news ≡ olds) where
  -- no array was opened
  pub idle_flushes : (May : ℕ → Type 0) → OnlyFlushesAdded old setting.tape → IsWritten setting (histories_of olds) (histories_of news) May
  idle_flushes May flushes = subst (λ (l : List Epoch). IsWritten setting (histories_of olds) (histories_of l) May) (sym same)
      (subst (λ (l : List History). IsWritten setting (histories_of olds) l May) (append-nil (histories_of olds)) (written-flushes setting old began (histories_of olds) [] tt May flushes))

  idle_below : (May : ℕ → Type 0) (n : ℕ) → OnlyBelow n old setting.tape → ((slot : ℕ) → slot < n → May slot) → IsWritten setting (histories_of olds) (histories_of news) May
  idle_below May n below may = subst (λ (l : List Epoch). IsWritten setting (histories_of olds) (histories_of l) May) (sym same)
      (subst (λ (l : List History). IsWritten setting (histories_of olds) l May) (append-nil (histories_of olds)) (written-below setting old began (histories_of olds) [] tt May n below may))

  -- one was, where the tape ends
  pub opened_flushes : (h : History) (May : ℕ → Type 0) → h.first ≡ length setting.tape → last_end_from h.first h.entries ≡ length setting.tape → OnlyFlushesAdded old setting.tape → IsWritten setting (histories_of olds) (histories_of news ++ h ∷ []) May
  opened_flushes h May first ended flushes =
      let long = added-longer flushes in
      subst (λ (l : List Epoch). IsWritten setting (histories_of olds) (histories_of l ++ h ∷ []) May) (sym same)
      (written-flushes setting old began (histories_of olds) (h ∷ []) ((omega (arith, began, first, long), omega (arith, first, ended)), tt) May flushes)
    where
      added-longer : OnlyFlushesAdded old setting.tape → length old ≤ length setting.tape
      added-longer (ops, flushes, is) = let long = ap (λ (l : List Operation). length l) is in let sum = length-append old ops in omega (arith, long, sum)

  pub opened_below : (h : History) (May : ℕ → Type 0) (n : ℕ) → h.first ≡ length setting.tape → last_end_from h.first h.entries ≡ length setting.tape → OnlyBelow n old setting.tape → ((slot : ℕ) → slot < n → May slot)
      → IsWritten setting (histories_of olds) (histories_of news ++ h ∷ []) May
  opened_below h May n first ended below may =
      let long = added-longer below in
      subst (λ (l : List Epoch). IsWritten setting (histories_of olds) (histories_of l ++ h ∷ []) May) (sym same)
      (written-below setting old began (histories_of olds) (h ∷ []) ((omega (arith, began, first, long), omega (arith, first, ended)), tt) May n below may)
    where
      added-longer : OnlyBelow n old setting.tape → length old ≤ length setting.tape
      added-longer (ops, below, is) = let long = ap (λ (l : List Operation). length l) is in let sum = length-append old ops in omega (arith, long, sum)

  -- a create line that made none
  module _ (c : Contents) (before now : ℕ → ℕ) (line : CreateLine) (below : OnlyBelow line.shape.disks old setting.tape)
      (untouched : (refusal : Refusal) → create_refusal setting.given setting.backup (spec_of line) ≡ Some refusal → length setting.tape ≤ setting.began) where
    pub create_refused : (refusal : Refusal) → ((slot : ℕ) → refusal ≡ UuidInUse slot → OnlyFlushesAdded old setting.tape) → HasCreateCause setting.tells setting.given c setting.backup (spec_of line) before now (IsRefusedWith refusal)
        → IsWritten setting (histories_of olds) (histories_of news) (HasWritten setting.given setting.backup (Create line) (IsOutside (Refused refusal)))
    create_refused refusal unwritten (inl (other, is, told)) = written_idle setting olds news (HasWritten setting.given setting.backup (Create line) (IsOutside (Refused refusal))) same (untouched other is)
    create_refused (UuidInUse slot) unwritten (inr (none, late)) = idle_flushes (HasWritten setting.given setting.backup (Create line) (IsOutside (Refused (UuidInUse slot)))) (unwritten slot refl)
    create_refused (SlotFault slot) unwritten (inr (none, late)) = idle_below (HasWritten setting.given setting.backup (Create line) (IsOutside (Refused (SlotFault slot)))) line.shape.disks below (λ slot lt. (none, lt))
    create_refused refusal unwritten (inr (none, late)) = absurd late

    pub create_short : HasCreateCause setting.tells setting.given c setting.backup (spec_of line) before now WantsMemory → IsWritten setting (histories_of olds) (histories_of news) (MayWrite setting.given setting.backup false (Create line))
    create_short (inl (other, is, told)) = absurd (cc)
    create_short (inr (none, late)) = idle_below (MayWrite setting.given setting.backup false (Create line)) line.shape.disks below (λ slot lt. (none, lt))
