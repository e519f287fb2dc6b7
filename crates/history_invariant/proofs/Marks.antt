-- The marks of a call whose entries end at one moment, and by which of them each is judged.
use Rattle.std.proofs.Common.{◌≡◌, inl, inr, ℕ, ◌+◌, ◌<◌, ◌≤◌, ◌⊎◌, Bool, true, false, cond, List, [], ◌∷◌, ◌++◌, length, take, take_all, refl, sym, ◌∙◌, ap, subst, arith}
use Rattle.std.proofs.Math.Seq.{drop-append_seam}
use Rattle.std.proofs.lemmas.Bool.{cases_lt}
use Rattle.std.proofs.lemmas.Bool.Decides.{nat_tests}
use Rattle.array_call_specs.specs.raid_types_the_Who.{Who}
use Rattle.array_call_specs.specs.bank_the_Operation.{Operation}
use Rattle.array_call_specs.specs.bank_Given.{Given, sizes}
use Rattle.array_call_specs.specs.bank_Tape.{Contents, IsDrawn, IsIn, disk}
use Rattle.array_call_specs.specs.sb_specs_Reading.{Scope}
use Rattle.array_call_specs.specs.history_the_Entry.{Entry}
use Rattle.array_call_specs.specs.history_the_Event.{Event}
use Rattle.array_call_specs.specs.history_CrashSafe.{made_by, may_be_made, first_call_len, MayBeJudgedBy, IsSafeAt}
use Rattle.array_call_specs.specs.history_Flat.{is_same_call, rest_of_call}
use Rattle.array_call_specs.specs.history_Growing.{grown, EndBy, IsSafeThroughout}
use Rattle.array_call_specs.specs.history_Losses.{is_gone}
use Rattle.array_call_specs.specs.history_Plain.{entries_of}
use Rattle.array_call_specs.specs.history_Sound.{OpensFit}
use Rattle.array_call_specs.specs.history_World.{World}
use Rattle.array_call_specs.proofs.history_laws_GrowingLaws.{calls-owe}
use Rattle.array_call_specs.proofs.history_laws_OneShapeGrowing.{one}
use Rattle.array_call_specs.specs.crash_views_Views.{Disk, IsSeenRight, ledger_of}
use Rattle.array_call_specs.proofs.crash_views_Judged.{views-safe}
use Rattle.array_call_specs.proofs.LedgerLaws.{judged_by}
use Rattle.array_call_specs.proofs.MadeLaws.{made-both, made-past, made-before, made-from, call-length, ends-by}
use Rattle.array_call_specs.proofs.RecordLaws.{ends-call}
use Rattle.array_call_specs.proofs.SafeLaws.{longer-by}
use Rattle.history_invariant.specs.Safe.{world_in, IsFilledRight}
use Rattle.history_invariant.proofs.Ledgers.{none-gone}

-- ---- how many entries were made by a mark

-- all of a call's entries are of the call
pub rest-whole : (who : Who) (end : ℕ) (event : Event) (events : List Event) → rest_of_call (one who end event) (entries_of who end events) ≡ entries_of who end events
rest-whole who end event [] = refl
rest-whole who end event (next ∷ events) =
    ap (λ (b : Bool). cond b (one who end next ∷ rest_of_call (one who end event) (entries_of who end events)) []) same
    ∙ ap (λ (l : List Entry). one who end next ∷ l) (rest-whole who end event events)
  where
    same : is_same_call (one who end event) (one who end next) ≡ true
    same = grind (arith, nat_tests)

pub ends-both : (mark : ℕ) (xs ys : List Entry) → EndBy mark xs → EndBy mark ys → EndBy mark (xs ++ ys)
ends-both mark [] ys one two = two
ends-both mark (x ∷ xs) ys one two = (one.0, ends-both mark xs ys one.1 two)

-- ---- a call

module _ (given : Given) (tape : List Operation) (scope : Scope) (first : ℕ) (entries : List Entry) (who : Who) (events : List Event) (ops : List Operation) (sizes_are : scope.sizes ≡ sizes given)
    (within : first ≤ length tape) (ends : EndBy (length tape) entries)
    (fills : IsFilledRight (grown (world_in given tape scope first) ops) (entries ++ entries_of who (length (tape ++ ops)) events)) where
  abbrev later : World
  later = grown (world_in given tape scope first) ops

  abbrev end : ℕ
  end = length (tape ++ ops)

  abbrev added : List Entry
  added = entries_of who (length (tape ++ ops)) events

  abbrev all : List Entry
  all = entries ++ entries_of who (length (tape ++ ops)) events

  longer : length tape ≤ end
  longer = longer-by tape ops

  fills-at : (k j : ℕ) → ((role : ℕ) → is_gone later all k j role ≡ false) ⊎ OpensFit later
  fills-at k j = elim fills [ inl none ↦ inl (λ role. none-gone later all none.0 k j role) | inr fit ↦ inr fit ]

  -- ---- a mark before its end

  made-early : (mark : ℕ) → length tape ≤ mark → mark < end → made_by mark all ≡ length entries
  made-early mark low high =
      let one : made_by mark entries ≡ length entries = made-past mark entries (ends-by (length tape) mark entries low ends) in
      let two : made_by mark added ≡ 0 = made-before mark end who events high in
      let both : made_by mark all ≡ made_by mark entries + made_by mark added = made-both mark entries added in
      omega (arith, one, two, both)

  may-early : (mark : ℕ) → length tape ≤ mark → mark < end → may_be_made all (made_by mark all) ≡ length entries + length events
  may-early mark low high =
      ap (may_be_made all) (made-early mark low high)
      ∙ ap (λ (l : List Entry). length entries + first_call_len l) (drop-append_seam entries added)
      ∙ ap (λ (n : ℕ). length entries + n) (call-length who end events)

  -- an image there is seen right by the history before the call and some of its entries
  pub record IsSeenBefore (d : Disk) (c : Contents) : Type 0 where
    pub j : ℕ
    pub some : length entries ≤ j
    pub most : j ≤ length entries + length events
    pub seen : IsSeenRight (OpensFit later) scope given (judged_by later all (length entries) j) d c

  pub safe-before : (mark : ℕ) → length tape ≤ mark → mark < end → ((c : Contents) → IsDrawn (disk given.start (take mark (tape ++ ops))) c → IsSeenBefore (disk given.start (take mark (tape ++ ops))) c)
      → IsSafeAt later all mark
  safe-before mark low high seen =
      let made = made-early mark low high in
      let may = may-early mark low high in
      views-safe later given all mark (disk given.start (take mark (tape ++ ops))) (omega (arith, high)) (λ s k v may. may) (λ c drawn.
      let is = seen c drawn in
      record {
        j = is.j;
        judged = take is.j all;
        by = record {
          sizes_are = sizes_are;
          made = omega (arith, made, is.some);
          running = omega (arith, may, is.most);
          by = inl refl;
          fills = fills-at (made_by mark all) is.j;
        };
        seen = subst (λ (k : ℕ). IsSeenRight (OpensFit later) scope given (judged_by later all k is.j) (disk given.start (take mark (tape ++ ops))) c) (sym made) is.seen;
      })

  -- ---- its end

  -- an image there is seen right by the whole history, perhaps without a change of length that no slot kept
  pub record IsSeenAfter (d : Disk) (c : Contents) : Type 0 where
    pub judged : List Entry
    pub by : MayBeJudgedBy later all (length all) (length all) judged
    pub seen : IsSeenRight (OpensFit later) scope given (ledger_of later all (length all) (length all) judged) d c

  made-all : made_by end all ≡ length all
  made-all = made-past end all (ends-call (length tape) entries who end events longer ends)

  pub safe-after : ((c : Contents) → IsDrawn (disk given.start (tape ++ ops)) c → IsSeenAfter (disk given.start (tape ++ ops)) c) → IsSafeAt later all end
  safe-after seen =
      views-safe later given all end (disk given.start (tape ++ ops)) (omega arith)
      (λ s k v may. subst (λ (l : List Operation). IsIn (disk given.start l s k) v) (take_all end (tape ++ ops) (omega arith)) may) (λ c drawn.
      let is = seen c drawn in
      record {
        j = length all;
        judged = is.judged;
        by = record {
          sizes_are = sizes_are;
          made = let made = made-all in omega (arith, made);
          running = let made = made-all in omega (arith, made);
          by = subst (λ (k : ℕ). MayBeJudgedBy later all k (length all) is.judged) (sym made-all) is.by;
          fills = fills-at (made_by end all) (length all);
        };
        seen = subst (λ (k : ℕ). IsSeenRight (OpensFit later) scope given (ledger_of later all k (length all) is.judged) (disk given.start (tape ++ ops)) c) (sym made-all) is.seen;
      })

  -- ---- all marks

  pub safe-marks : IsSafeThroughout (world_in given tape scope first) entries
      → ((mark : ℕ) → length tape ≤ mark → mark < end → (c : Contents) → IsDrawn (disk given.start (take mark (tape ++ ops))) c → IsSeenBefore (disk given.start (take mark (tape ++ ops))) c)
      → ((c : Contents) → IsDrawn (disk given.start (tape ++ ops)) c → IsSeenAfter (disk given.start (tape ++ ops)) c)
      → IsSafeThroughout later all
  safe-marks past before after =
      calls-owe (world_in given tape scope first) entries added ops within ends (made-from (length tape) end who events longer) past owed
    where
      owed : (mark : ℕ) → length tape ≤ mark → mark ≤ end → IsSafeAt later all mark
      owed mark low high = elim (cases_lt mark end) [
        | inl early ↦ safe-before mark low early (before mark low early)
        | inr late ↦ let is : mark ≡ end = omega (arith, high, late) in subst (λ (m : ℕ). IsSafeAt later all m) (sym is) (safe-after after)
      ]
