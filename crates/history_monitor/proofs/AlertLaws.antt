-- The alerts of a history that grows.
use Rattle.std.proofs.Common.{◌≡◌, ℕ, ◌+◌, ◌<◌, ◌≤◌, Bool, true, false, ◌||◌, List, [], ◌∷◌, ◌++◌, length, take, drop, refl, sym, ap, ◌∙◌, arith, length-append, length-take-le, slice_get, Some}
use Rattle.std.specs.List.{list_any}
use Rattle.std.proofs.lemmas.List.{take_more, take-append-drop, take-take, drop-append-le}
use Rattle.std.proofs.lemmas.Option.{get_or_from_slice_get, slice_get_within}
use Rattle.std.proofs.Math.Seq.{take-append_seam}
use Rattle.std.proofs.lemmas.List.Folds.{list_any-append}
use Rattle.std.proofs.lemmas.List.Sums.{fold-append}
use Rattle.history.specs.declared.events.Entry.{Entry}
use Rattle.history_monitor.specs.declared.past.Past.{Past}
use Rattle.history_monitor.specs.Alerts.{is_absence, is_resync_stripe, rebuilding_after, past_of, past_after, as_list, alert_at, alerts_behind, alerts, alerts_since}
use Rattle.history_monitor.specs.Told.{HasScanned}

-- ---- lists

assoc : {A : Type 0} (a b c : List A) → (a ++ b) ++ c ≡ a ++ (b ++ c)
assoc [] b c = refl
assoc (x ∷ a) b c = ap (λ l. x ∷ l) (assoc a b c)

right : {A : Type 0} (a : List A) → a ++ [] ≡ a
right [] = refl
right (x ∷ a) = ap (λ l. x ∷ l) (right a)

-- ---- one entry more

any_one : (p : Entry → Bool) (e : Entry) → list_any p (e ∷ []) ≡ p e
any_one p e = or_false (p e)
  where
    or_false : (b : Bool) → (b || false) ≡ b
    or_false true = refl
    or_false false = refl

pub past-snoc : (before : List Entry) (e : Entry) → past_of (before ++ e ∷ []) ≡ past_after (past_of before) e.event
past-snoc before e = joined (length-append before (e ∷ [])) (list_any-append (λ e. is_absence e.event) before (e ∷ []) ∙ ap (λ b. list_any (λ e. is_absence e.event) before || b) (any_one (λ e. is_absence e.event) e))
    (list_any-append (λ e. is_resync_stripe e.event) before (e ∷ []) ∙ ap (λ b. list_any (λ e. is_resync_stripe e.event) before || b) (any_one (λ e. is_resync_stripe e.event) e))
    (fold-append (λ rebuilding e. rebuilding_after rebuilding e.event) false before (e ∷ []))
  where
    joined : {n m : ℕ} {a b c d f g : Bool} → n ≡ m → a ≡ b → c ≡ d → f ≡ g
        → ◌≡◌ {A = Past} (record { scanned = n; degraded = a; resynced = c; rebuilding = f }) (record { scanned = m; degraded = b; resynced = d; rebuilding = g })
    joined e1 e2 e3 e4 = rw e1 (rw e2 (rw e3 (rw e4 refl)))

pub behind-append : (before one two : List Entry) → alerts_behind before (one ++ two) ≡ alerts_behind before one ++ alerts_behind (before ++ one) two
behind-append before [] two = ap (λ l. alerts_behind l two) (sym (right before))
behind-append before (e ∷ one) two =
    ap (λ l. as_list (alert_at (past_of before) e.event) ++ l) (behind-append (before ++ e ∷ []) one two
    ∙ ap (λ l. alerts_behind (before ++ e ∷ []) one ++ alerts_behind l two) (assoc before (e ∷ []) one))
    ∙ sym (assoc (as_list (alert_at (past_of before) e.event)) (alerts_behind (before ++ e ∷ []) one) (alerts_behind (before ++ e ∷ one) two))

pub behind-snoc : (before one : List Entry) (e : Entry)
    → alerts_behind before (one ++ e ∷ []) ≡ alerts_behind before one ++ as_list (alert_at (past_of (before ++ one)) e.event)
behind-snoc before one e = behind-append before one (e ∷ []) ∙ ap (λ l. alerts_behind before one ++ l) (right (as_list (alert_at (past_of (before ++ one)) e.event)))

-- ---- from a place on

pub since-all : (n : ℕ) (entries : List Entry) → alerts entries ≡ alerts (take n entries) ++ alerts_since n entries
since-all n entries = ap alerts (sym (take-append-drop n entries)) ∙ behind-append [] (take n entries) (drop n entries)

-- the place that is read
taken : (at : ℕ) (entries : List Entry) (e : Entry) → slice_get entries at ≡ Some e → take (at + 1) entries ≡ take at entries ++ e ∷ []
taken at entries e there = take_more entries at e (slice_get_within entries at e there) ∙ ap (λ x. take at entries ++ x ∷ []) (get_or_from_slice_get entries at e e there)

-- the turn from one entry to the next
pub behind-more : (n at : ℕ) (entries : List Entry) (e : Entry) → n ≤ at → at < length entries → slice_get entries at ≡ Some e
    → alerts_behind (take n entries) (drop n (take (at + 1) entries))
    ≡ alerts_behind (take n entries) (drop n (take at entries)) ++ as_list (alert_at (past_of (take at entries)) e.event)
behind-more n at entries e le lt there =
    let one : take (at + 1) entries ≡ take at entries ++ e ∷ [] = taken at entries e there in
    let len : length (take at entries) ≡ at = length-take-le at entries (omega (arith, lt)) in
    let split : drop n (take at entries ++ e ∷ []) ≡ drop n (take at entries) ++ e ∷ [] = drop-append-le n (take at entries) (e ∷ []) (omega (arith, len, le)) in
    let joined : take n entries ++ drop n (take at entries) ≡ take at entries =
    ap (λ l. l ++ drop n (take at entries)) (sym (take-take n at entries le)) ∙ take-append-drop n (take at entries) in
    ap (λ l. alerts_behind (take n entries) (drop n l)) one
    ∙ ap (alerts_behind (take n entries)) split
    ∙ behind-snoc (take n entries) (drop n (take at entries)) e
    ∙ ap (λ l. alerts_behind (take n entries) (drop n (take at entries)) ++ as_list (alert_at (past_of l) e.event)) joined

pub past-more : (at : ℕ) (entries : List Entry) (e : Entry) → slice_get entries at ≡ Some e
    → past_of (take (at + 1) entries) ≡ past_after (past_of (take at entries)) e.event
past-more at entries e there = ap past_of (taken at entries e there) ∙ past-snoc (take at entries) e

pub scanned-of : (at : ℕ) (entries : List Entry) (past : Past) → at < length entries → past ≡ past_of (take at entries) → past.scanned ≡ at
scanned-of at entries past lt known = ap (λ p. p.scanned) known ∙ length-take-le at entries (omega (arith, lt))

pub stays-scanned : (entries more : List Entry) → HasScanned (past_of entries) (entries ++ more)
stays-scanned entries more = record {
  within = omega (arith, length-append entries more);
  known = ap past_of (sym (take-append_seam entries more));
}

pub past-turn : (at : ℕ) (entries : List Entry) (e : Entry) (past next : Past) → slice_get entries at ≡ Some e → past ≡ past_of (take at entries)
    → next ≡ past_after past e.event → next ≡ past_of (take (at + 1) entries)
past-turn at entries e past next there known later =
    later ∙ ap (λ p. past_after p e.event) known ∙ sym (past-more at entries e there)
