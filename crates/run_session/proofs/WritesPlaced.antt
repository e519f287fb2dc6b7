-- Each write of a run stands inside an epoch, or is of a create line; between two epochs there are flushes.
use Rattle.std.proofs.Common.{◌≡◌, ◌⊎◌, inl, inr, ℕ, zero, suc, ◌+◌, ◌-◌, ◌<◌, ◌≤◌, Bool, Option, Some, None, List, [], ◌∷◌, ◌++◌, length, take, drop, refl, sym, ◌∙◌, ap, subst, arith, append-nil, append_assoc}
use Rattle.std.proofs.lemmas.Bool.{cases_lt}
use Rattle.std.proofs.lemmas.Option.{slice_get_within}
use Rattle.std.proofs.Math.ListN.{get_or}
use Rattle.std.specs.Prelude.{slice_get}
use Rattle.run_blocks.specs.raid_types_Sectors.{Sector}
use Rattle.run_blocks.specs.bank_Given.{Given}
use Rattle.run_blocks.specs.bank_Tape.{AreFlushes}
use Rattle.run_blocks.specs.bank_the_Operation.{Operation}
use Rattle.run_blocks.specs.bank_the_Operation_TheVariants.{Write, Flush}
use Rattle.run_blocks.specs.history_the_Epoch.{Epoch}
use Rattle.run_blocks.specs.history_Transfers.{last_end_from}
use Rattle.run_blocks.specs.script_the_Line.{Line}
use Rattle.run_blocks.specs.script_the_Numbered.{Numbered}
use Rattle.run_blocks.specs.script_the_Lane.{Lane}
use Rattle.run_blocks.specs.script_the_Lane_TheVariants.{Script as InScript, A as InA, B as InB, Worker as InWorker}
use Rattle.run_blocks.specs.run_specs_the_Answered.{Answered}
use Rattle.run_blocks.specs.run_specs_the_Answered_TheVariants.{Inside, Outside as IsOutside}
use Rattle.run_blocks.specs.run_specs_the_LineReply.{LineReply}
use Rattle.run_session.specs.declared.sessions.Stop.{Stop}
use Rattle.run_session.specs.declared.sessions.Stop.TheVariants.{NoMemory as IsShort}
use Rattle.run_blocks.specs.run_specs_Ended.{next_mark, AreRising}
use Rattle.run_blocks.specs.run_specs_Histories.{History, history_of, histories_of}
use Rattle.run_blocks.specs.run_specs_Making.{Setting, setting_of}
use Rattle.run_blocks.specs.run_specs_Replies.{mark_reached, mark_shown, AreInOrder}
use Rattle.run_session.specs.Sessions.{IsEndNow}
use Rattle.run_blocks.specs.run_specs_Written.{IsInEpoch, MayWrite, HasWritten, AreSpans, IsWritten}
use Rattle.run_session.specs.Writes.{IsOfCreate, AreWritesPlaced, NoneOfCreate, AreQuiet}
use Rattle.run_blocks.proofs.run_specs_Worlds.{last-within}
use Rattle.run_blocks.proofs.run_requests_Writing.{none-behind, spans-back}

-- the tape's front stays
front-stays : (old ops : List Operation) (mark : ℕ) (op : Operation) → mark < length old → slice_get (old ++ ops) mark ≡ Some op → slice_get old mark ≡ Some op
front-stays [] ops mark op lt is = absurd (omega (arith, lt))
front-stays (x ∷ old) ops zero op lt is = is
front-stays (x ∷ old) ops (suc mark) op lt is = front-stays old ops mark op (omega (arith, lt)) is

-- the mark that the run has reached only rises
pub mark-on : (low : ℕ) (lane : Lane) (what : Answered) (end : ℕ) → low ≤ end → low ≤ mark_reached low lane what end
mark-on low InScript what end le = le
mark-on low InA (Inside epoch at) end le = omega arith
mark-on low InA (IsOutside outside) end le = le
mark-on low InB (Inside epoch at) end le = omega arith
mark-on low InB (IsOutside outside) end le = le
mark-on low InWorker (Inside epoch at) end le = omega arith
mark-on low InWorker (IsOutside outside) end le = le

module _ (given : Given) (backup : Option ℕ) (stopped : Option Stop) (running : Bool) where
  -- of one of the former lines, also once there are more replies
  of-former : (ran : Bool) (low : ℕ) (lines : List Numbered) (replies more : List LineReply) (mark slot : ℕ) → IsOfCreate given backup None ran low lines replies mark slot → IsOfCreate given backup stopped running low lines (replies ++ more) mark slot
  of-former ran low [] replies more mark slot is = absurd is
  of-former ran low (line ∷ lines) [] more mark slot is = absurd (none_some is.0)
    where
      none_some : None ≡ Some IsShort → ⊥
      none_some same = absurd (cc)
  of-former ran low (line ∷ lines) (reply ∷ replies) more mark slot (inl is) = inl is
  of-former ran low (line ∷ lines) (reply ∷ replies) more mark slot (inr is) = inr (of-former ran (mark_shown low reply) lines replies more mark slot is)

  -- of the line that got one reply more
  of-latest : (low high : ℕ) (lines : List Numbered) (replies : List LineReply) (nothing line : Numbered) (reply : LineReply) (mark slot : ℕ) → length replies < length lines → get_or lines (length replies) nothing ≡ line
      → AreInOrder low high replies → high ≤ mark → mark < reply.end → HasWritten given backup line.line reply.what slot → IsOfCreate given backup stopped running low lines (replies ++ reply ∷ []) mark slot
  of-latest low high [] replies nothing line reply mark slot lt here order from to is = absurd (omega (arith, lt))
  of-latest low high (l ∷ lines) [] nothing line reply mark slot lt here order from to is = inl (omega (arith, order, from), to, subst (λ (n : Numbered). HasWritten given backup n.line reply.what slot) (sym here) is)
  of-latest low high (l ∷ lines) (r ∷ replies) nothing line reply mark slot lt here order from to is =
      inr (of-latest (mark_shown low r) high lines replies nothing line reply mark slot (omega (arith, lt)) here order.1 from to is)

-- of the line that got none, for want of memory
of-short : (given : Given) (backup : Option ℕ) (running : Bool) (low high : ℕ) (lines : List Numbered) (replies : List LineReply) (nothing line : Numbered) (mark slot : ℕ) → length replies < length lines → get_or lines (length replies) nothing ≡ line
    → AreInOrder low high replies → high ≤ mark → MayWrite given backup running line.line slot → IsOfCreate given backup (Some IsShort) running low lines replies mark slot
of-short given backup running low high [] replies nothing line mark slot lt here order from is = absurd (omega (arith, lt))
of-short given backup running low high (l ∷ lines) [] nothing line mark slot lt here order from is = (refl, omega (arith, order, from), subst (λ (n : Numbered). MayWrite given backup running n.line slot) (sym here) is)
of-short given backup running low high (l ∷ lines) (r ∷ replies) nothing line mark slot lt here order from is = inr (of-short given backup running (mark_shown low r) high lines replies nothing line mark slot (omega (arith, lt)) here order.1 from is)

-- only an answer outside has written, and its reply ends where the tape does
end-now : {tells : Type 0} (given : Given) (backup : Option ℕ) (line : Line) (high : ℕ) (reply : LineReply) (what : Answered) (slot : ℕ) → tells → IsEndNow tells high reply what → HasWritten given backup line what slot → reply.end ≡ high
end-now given backup line high reply (Inside epoch at) slot t now is = absurd is
end-now given backup line high reply (IsOutside outside) slot t now is = now t

module _ {tells : Type 0} (given : Given) (backup : Option ℕ) (first mid last : List Operation) (start before now : ℕ → ℕ) (olds news : List History) (lines : List Numbered) (replies : List LineReply) (nothing line : Numbered)
    (t : tells) (grew : (ops : List Operation) × (last ≡ mid ++ ops)) (lt : length replies < length lines) (here : get_or lines (length replies) nothing ≡ line) (order : AreInOrder (length first) (length mid) replies)
    (ran running : Bool) (was : AreWritesPlaced (setting_of tells given first mid backup start before) olds None ran lines replies) where
  first-early : (rs : List LineReply) → AreInOrder (length first) (length mid) rs → length first ≤ length mid
  first-early rs order = in-order (length first) (length mid) rs order
    where
      in-order : (low high : ℕ) (rs : List LineReply) → AreInOrder low high rs → low ≤ high
      in-order low high [] le = le
      in-order low high (r ∷ rs) (le, rest) = let on = mark-on low r.lane r.what r.end le in omega (arith, on, in-order (mark_shown low r) high rs rest)

  -- a write of the former tape
  former-placed : (stopped : Option Stop) (more : List LineReply) (kept : (mark : ℕ) → IsInEpoch olds mark → IsInEpoch news mark) (mark slot at : ℕ) (body : Sector) → length first ≤ mark → mark < length mid → slice_get last mark ≡ Some (Write slot at body)
      → IsInEpoch news mark ⊎ IsOfCreate given backup stopped running (length first) lines (replies ++ more) mark slot
  former-placed stopped more kept mark slot at body from to there =
      by_place (was.placed mark slot at body from (front-stays mid (grew.0) mark (Write slot at body) to (ap (λ (l : List Operation). slice_get l mark) (sym (grew.1)) ∙ there)))
    where
      by_place : IsInEpoch olds mark ⊎ IsOfCreate given backup None ran (length first) lines replies mark slot → IsInEpoch news mark ⊎ IsOfCreate given backup stopped running (length first) lines (replies ++ more) mark slot
      by_place (inl is) = inl (kept mark is)
      by_place (inr is) = inr (of-former given backup stopped running ran (length first) lines replies more mark slot is)

  -- one reply more
  pub placed-reply : (stopped : Option Stop) (reply : LineReply) → IsEndNow tells (length last) reply reply.what → IsWritten (setting_of tells given mid last backup before now) olds news (HasWritten given backup line.line reply.what)
      → AreWritesPlaced (setting_of tells given first last backup start now) news stopped running lines (replies ++ reply ∷ [])
  placed-reply stopped reply end written = record {
    spans = written.spans (length first) (first-early replies order) was.spans;
    placed = λ mark slot at body from there. elim (cases_lt mark (length mid)) [
      | inl to ↦ former-placed stopped (reply ∷ []) written.kept mark slot at body from to there
      | inr past ↦ by_place mark slot (omega (arith, past)) (slice_get_within last mark (Write slot at body) there) (written.placed mark slot at body (omega (arith, past)) there)
    ];
  }
    where
      by_place : (mark slot : ℕ) → length mid ≤ mark → mark < length last → IsInEpoch news mark ⊎ HasWritten given backup line.line reply.what slot
          → IsInEpoch news mark ⊎ IsOfCreate given backup stopped running (length first) lines (replies ++ reply ∷ []) mark slot
      by_place mark slot past within (inl is) = inl is
      by_place mark slot past within (inr is) = inr (of-latest given backup stopped running (length first) (length mid) lines replies nothing line reply mark slot lt here order past
          (omega (arith, within, end-now given backup line.line (length last) reply reply.what slot t end is)) is)

  -- several replies more, by which nothing was written outside of the epochs
  pub placed-more : (stopped : Option Stop) (more : List LineReply) → IsWritten (setting_of tells given mid last backup before now) olds news (λ slot. ⊥)
      → AreWritesPlaced (setting_of tells given first last backup start now) news stopped running lines (replies ++ more)
  placed-more stopped more written = record {
    spans = written.spans (length first) (first-early replies order) was.spans;
    placed = λ mark slot at body from there. elim (cases_lt mark (length mid)) [
      | inl to ↦ former-placed stopped more written.kept mark slot at body from to there
      | inr past ↦ by_place mark slot (written.placed mark slot at body (omega (arith, past)) there)
    ];
  }
    where
      by_place : (mark slot : ℕ) → IsInEpoch news mark ⊎ ⊥ → IsInEpoch news mark ⊎ IsOfCreate given backup stopped running (length first) lines (replies ++ more) mark slot
      by_place mark slot (inl is) = inl is
      by_place mark slot (inr none) = absurd none

  -- memory was short for one
  pub placed-short : IsWritten (setting_of tells given mid last backup before now) olds news (MayWrite given backup running line.line) → AreWritesPlaced (setting_of tells given first last backup start now) news (Some IsShort) running lines replies
  placed-short written = record {
    spans = written.spans (length first) (first-early replies order) was.spans;
    placed = λ mark slot at body from there. elim (cases_lt mark (length mid)) [
      | inl to ↦ subst (λ (rs : List LineReply). IsInEpoch news mark ⊎ IsOfCreate given backup (Some IsShort) running (length first) lines rs mark slot) (append-nil replies)
          (former-placed (Some IsShort) [] written.kept mark slot at body from to there)
      | inr past ↦ by_place mark slot (omega (arith, past)) (written.placed mark slot at body (omega (arith, past)) there)
    ];
  }
    where
      by_place : (mark slot : ℕ) → length mid ≤ mark → IsInEpoch news mark ⊎ MayWrite given backup running line.line slot → IsInEpoch news mark ⊎ IsOfCreate given backup (Some IsShort) running (length first) lines replies mark slot
      by_place mark slot past (inl is) = inl is
      by_place mark slot past (inr is) = inr (of-short given backup running (length first) (length mid) lines replies nothing line mark slot lt here order past is)

-- nothing was performed yet
pub placed-none : (setting : Setting) (hs : List History) (stopped : Option Stop) (running : Bool) (lines : List Numbered) (replies : List LineReply) → hs ≡ [] → length setting.tape ≤ setting.began → AreWritesPlaced setting hs stopped running lines replies
placed-none setting hs stopped running lines replies empty le = record {
  spans = subst (λ (l : List History). AreSpans setting.began l) (sym empty) tt;
  placed = λ mark slot at body from there. absurd (omega (arith, le, from, slice_get_within setting.tape mark (Write slot at body) there));
}

-- ---- the end of a run

-- what stood inside a history that ended does so still
pub placed-end : (setting last : Setting) (olds news : List History) (stopped : Option Stop) (running : Bool) (lines : List Numbered) (replies : List LineReply) → setting.began ≤ last.began → IsWritten last olds news (λ slot. ⊥)
    → AreWritesPlaced setting olds stopped running lines replies → AreWritesPlaced setting news stopped running lines replies
placed-end setting last olds news stopped running lines replies longer written was = record {
  spans = written.spans setting.began longer was.spans;
  placed = λ mark slot at body from there. by_place mark slot (was.placed mark slot at body from there);
}
  where
    by_place : (mark slot : ℕ) → IsInEpoch olds mark ⊎ IsOfCreate setting.given setting.backup stopped running setting.began lines replies mark slot → IsInEpoch news mark ⊎ IsOfCreate setting.given setting.backup stopped running setting.began lines replies mark slot
    by_place mark slot (inl is) = inl (written.kept mark is)
    by_place mark slot (inr is) = inr is

-- ---- between two epochs

-- no write stands there
flushes-taken : (ops : List Operation) (n : ℕ) → ((mark slot at : ℕ) (body : Sector) → mark < n → slice_get ops mark ≡ Some (Write slot at body) → ⊥) → AreFlushes (take n ops)
flushes-taken ops zero none = tt
flushes-taken [] (suc n) none = tt
flushes-taken (Flush t ∷ ops) (suc n) none = flushes-taken ops n (λ mark slot at body lt is. none (suc mark) slot at body (omega (arith, lt)) is)
flushes-taken (Write t j w ∷ ops) (suc n) none = absurd (none 0 t j w (omega arith) refl)

flushes-within : (ops : List Operation) (from n : ℕ) → ((mark slot at : ℕ) (body : Sector) → from ≤ mark → mark < from + n → slice_get ops mark ≡ Some (Write slot at body) → ⊥) → AreFlushes (take n (drop from ops))
flushes-within ops zero n none = flushes-taken ops n (λ mark slot at body lt is. none mark slot at body (omega arith) (omega (arith, lt)) is)
flushes-within [] (suc from) n none = flushes-taken [] n (λ mark slot at body lt is. none-behind [] mark (Write slot at body) (omega arith) is)
flushes-within (op ∷ ops) (suc from) n none = flushes-within ops from n (λ mark slot at body le lt is. none (suc mark) slot at body (omega (arith, le)) (omega (arith, lt)) is)

-- the histories behind one begin at the next mark or later
begun-behind : (high : ℕ) (hs : List History) (mark : ℕ) → AreRising high hs → IsInEpoch hs mark → next_mark high hs ≤ mark
begun-behind high [] mark rising is = absurd is
begun-behind high (h ∷ hs) mark rising (inl is) = is.begun
begun-behind high (h ∷ hs) mark rising (inr is) = let later = begun-behind high hs mark rising.1 is in let behind = rising.0.0 in omega (arith, later, behind)

-- those before one end by its first mark
ended-before : (high : ℕ) (before : List History) (h : History) (hs : List History) (mark : ℕ) → AreRising high (before ++ h ∷ hs) → IsInEpoch before mark → mark < h.first
ended-before high [] h hs mark rising is = absurd is
ended-before high (b ∷ before) h hs mark rising (inl is) =
    let ends = last-within (next_mark high (before ++ h ∷ hs)) b.first b.entries rising.0.0 rising.0.1 in
    let next = next-before high before h hs rising.1 in
    let unended = is.unended in
    omega (arith, ends, next, unended)
  where
    next-before : (high : ℕ) (before : List History) (h : History) (hs : List History) → AreRising high (before ++ h ∷ hs) → next_mark high (before ++ h ∷ hs) ≤ h.first
    next-before high [] h hs rising = omega arith
    next-before high (b ∷ before) h hs rising = let behind = rising.0.0 in let rest = next-before high before h hs rising.1 in omega (arith, behind, rest)
ended-before high (b ∷ before) h hs mark rising (inr is) = ended-before high before h hs mark rising.1 is

-- no epoch reaches into the gap behind one
gap-free : (high : ℕ) (before : List History) (former next : History) (hs : List History) (mark : ℕ) → AreRising high (before ++ former ∷ next ∷ hs) → former.first ≤ last_end_from former.first former.entries
    → last_end_from former.first former.entries ≤ mark → mark < next.first → IsInEpoch (before ++ former ∷ next ∷ hs) mark → ⊥
gap-free high before former next hs mark rising lasting from to inside = by_side (in-side before inside)
  where
    in-side : (bs : List History) → IsInEpoch (bs ++ former ∷ next ∷ hs) mark → IsInEpoch bs mark ⊎ IsInEpoch (former ∷ next ∷ hs) mark
    in-side [] is = inr is
    in-side (b ∷ bs) (inl is) = inl (inl is)
    in-side (b ∷ bs) (inr is) = by_rest (in-side bs is)
      where
        by_rest : IsInEpoch bs mark ⊎ IsInEpoch (former ∷ next ∷ hs) mark → IsInEpoch (b ∷ bs) mark ⊎ IsInEpoch (former ∷ next ∷ hs) mark
        by_rest (inl is) = inl (inr is)
        by_rest (inr is) = inr is

    rising-behind : (bs : List History) → AreRising high (bs ++ former ∷ next ∷ hs) → AreRising high (next ∷ hs)
    rising-behind [] is = is.1
    rising-behind (b ∷ bs) is = rising-behind bs is.1

    by_side : IsInEpoch before mark ⊎ IsInEpoch (former ∷ next ∷ hs) mark → ⊥
    by_side (inl is) = absurd (omega (arith, ended-before high before former (next ∷ hs) mark rising is, lasting, from))
    by_side (inr (inl is)) = absurd (omega (arith, is.unended, from))
    by_side (inr (inr is)) = absurd (omega (arith, begun-behind high (next ∷ hs) mark (rising-behind before rising) is, to))

-- between two epochs only flushes were done, where no create line wrote there
module _ (setting : Setting) (stopped : Option Stop) (running : Bool) (lines : List Numbered) (replies : List LineReply) (high : ℕ) where
  quiet-behind : (before : List History) (epochs : List Epoch) → AreRising high (before ++ histories_of epochs) → AreWritesPlaced setting (before ++ histories_of epochs) stopped running lines replies → AreQuiet setting stopped running lines replies epochs
  quiet-behind before [] rising was = tt
  quiet-behind before (e ∷ []) rising was = tt
  quiet-behind before (e ∷ f ∷ epochs) rising was = (
    λ none. flushes-within setting.tape (last_end_from e.first e.entries.items) (f.first - last_end_from e.first e.entries.items) (λ mark slot at body le lt is. gone none mark slot le (omega (arith, lt)) (was.placed mark slot at body (omega (arith, le, span.0, span.1)) is)),
    quiet-behind (before ++ history_of e ∷ []) (f ∷ epochs) (subst (λ (l : List History). AreRising high l) apart rising)
        (subst (λ (l : List History). AreWritesPlaced setting l stopped running lines replies) apart was),
  )
    where
      span : (setting.began ≤ e.first) × (e.first ≤ last_end_from e.first e.entries.items)
      span = (spans-back setting.began before (histories_of (e ∷ f ∷ epochs)) was.spans).0

      apart : before ++ histories_of (e ∷ f ∷ epochs) ≡ (before ++ history_of e ∷ []) ++ histories_of (f ∷ epochs)
      apart = sym (append_assoc before (history_of e ∷ []) (histories_of (f ∷ epochs)))

      gone : NoneOfCreate setting stopped running lines replies (last_end_from e.first e.entries.items) f.first → (mark slot : ℕ) → last_end_from e.first e.entries.items ≤ mark → mark < f.first
          → IsInEpoch (before ++ histories_of (e ∷ f ∷ epochs)) mark ⊎ IsOfCreate setting.given setting.backup stopped running setting.began lines replies mark slot → ⊥
      gone none mark slot le lt (inl is) = gap-free high before (history_of e) (history_of f) (histories_of epochs) mark rising span.1 le lt is
      gone none mark slot le lt (inr is) = none mark slot le lt is

  pub quiet-between : (epochs : List Epoch) → AreRising high (histories_of epochs) → AreWritesPlaced setting (histories_of epochs) stopped running lines replies → AreQuiet setting stopped running lines replies epochs
  quiet-between epochs rising was = quiet-behind [] epochs rising was
