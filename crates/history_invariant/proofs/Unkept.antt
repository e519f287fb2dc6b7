-- A change of length that no slot kept: what is told without it, and the entries by which it may be left out.
use Rattle.std.proofs.Common.{◌≡◌, ℕ, ◌&&◌, ◌||◌, ◌==◌, Bool, true, false, cond, List, [], ◌∷◌, ◌++◌, length, remove, refl, sym, ◌∙◌, ap, ap₂, subst, arith, append_assoc}
use Rattle.std.specs.List.{list_any}
use Rattle.std.proofs.Math.Seq.{take-append_seam, drop-append_seam}
use Rattle.std.proofs.lemmas.Bool.Decides.{nat_tests}
use Rattle.std.proofs.lemmas.List.Folds.{list_any-append}
use Rattle.array_call_specs.specs.raid_types_the_Who.{Who}
use Rattle.array_call_specs.specs.bank_Tape.{IsIn}
use Rattle.array_call_specs.specs.history_the_Entry.{Entry}
use Rattle.array_call_specs.specs.history_the_Event.{Event}
use Rattle.array_call_specs.specs.history_the_Event_TheVariants.{Lost, SpareLost, Resized}
use Rattle.array_call_specs.specs.history_the_LostCause_TheVariants.{Fault}
use Rattle.array_call_specs.specs.history_CrashSafe.{up_to, first_with_losses, losses_behind}
use Rattle.array_call_specs.specs.history_Flat.{length_of, values_of}
use Rattle.array_call_specs.specs.history_Losses.{settles, unsettles, is_gone_after, is_unsynced}
use Rattle.array_call_specs.specs.history_OneShape.{is_unsettled}
use Rattle.array_call_specs.specs.history_Plain.{entries_of}
use Rattle.array_call_specs.specs.history_World.{World, opening_list}
use Rattle.array_call_specs.proofs.history_laws_OneShapeGrowing.{one, AreFaults}
use Rattle.array_call_specs.specs.crash_views_Views.{Ledger}
use Rattle.array_call_specs.specs.crash_safety_laws_Steady.{IsMoreTold}
use Rattle.history_invariant.specs.Safe.{told_without}
use Rattle.history_invariant.specs.Told.{told_by}
use Rattle.history_invariant.proofs.Entered.{AreAdding, length-adding, values-adding, settle-none}
use Rattle.history_invariant.proofs.Ledgers.{unclean-now}

-- ---- what is told

-- Of a call that enters some events, then a change of length, and others behind it, all of which settle nothing: without the change it tells at its end
-- what its first events told, where the roles that they tell gone are gone still.
pub unkept-told : (world : World) (told : Ledger) (entries before : List Entry) (e : Entry) (n : ℕ) (behind : List Entry) → e.event ≡ Resized n → AreAdding before → AreAdding behind
    → IsMoreTold told (told_by world (λ slot number. true) true entries before)
    → ((role : ℕ) → told.gone role ≡ true → is_gone_after world (entries ++ (before ++ e ∷ behind)) role ≡ true)
    → IsMoreTold told (told_without world (entries ++ (before ++ e ∷ behind)) (length (entries ++ before)))
unkept-told world told entries before e n behind is adds more less gone = record {
  size = less.size ∙ sym (ap (λ (l : List Entry). length_of (length (opening_list world)) l) without ∙ length-adding (length (opening_list world)) (entries ++ before) behind more);
  values = λ x lt v may. subst (λ (l : List Entry). IsIn (values_of (opening_list world) l x) v) (sym without) (values-adding (opening_list world) (entries ++ before) behind more x v (less.values x lt v may));
  gone = gone;
  unclean = λ was. unclean-now world entries (before ++ e ∷ behind) settled (with_more (less.unclean was));
  reshaping = λ was. refl;
  carried = λ slot number was. refl;
}
  where
    removed : (xs : List Entry) (x : Entry) (ys : List Entry) → remove (xs ++ x ∷ ys) (length xs) ≡ xs ++ ys
    removed [] x ys = refl
    removed (z ∷ xs) x ys = ap (λ (l : List Entry). z ∷ l) (removed xs x ys)

    without : remove (entries ++ (before ++ e ∷ behind)) (length (entries ++ before)) ≡ (entries ++ before) ++ behind
    without = ap (λ (l : List Entry). remove l (length (entries ++ before))) (sym (append_assoc entries before (e ∷ behind))) ∙ removed (entries ++ before) e behind

    settled : list_any (λ e. settles e.event) (before ++ e ∷ behind) ≡ false
    settled =
        list_any-append (λ e. settles e.event) before (e ∷ behind)
        ∙ ap₂ (λ (a b : Bool). a || b) (settle-none before adds) (ap₂ (λ (event : Event) (b : Bool). settles event || b) is (settle-none behind more))

    three : (a b c d : Bool) → (a || (b || c)) ≡ true → (a || (b || (c || d))) ≡ true
    three true b c d was = refl
    three false true c d was = refl
    three false false true d was = refl
    three false false false d was = absurd (cc)

    with_more : (is_unsynced world entries || (is_unsettled entries || list_any (λ e. unsettles e.event) before)) ≡ true
        → (is_unsynced world entries || (is_unsettled entries || list_any (λ e. unsettles e.event) (before ++ e ∷ behind))) ≡ true
    with_more was =
        ap (λ (b : Bool). is_unsynced world entries || (is_unsettled entries || b)) (list_any-append (λ e. unsettles e.event) before (e ∷ behind))
        ∙ three (is_unsynced world entries) (is_unsettled entries) (list_any (λ e. unsettles e.event) before) (list_any (λ e. unsettles e.event) (e ∷ behind)) was

-- ---- the entries up to it

own-losses : (who : Who) (end : ℕ) (event : Event) (xs : List Event) → AreFaults xs → losses_behind (one who end event) (entries_of who end xs) ≡ entries_of who end xs
own-losses who end event [] are = refl
own-losses who end event (Lost role Fault ∷ xs) are =
    ap (λ (b : Bool). cond b (one who end (Lost role Fault) ∷ losses_behind (one who end event) (entries_of who end xs)) []) (same who.caller who.number)
    ∙ ap (λ (l : List Entry). one who end (Lost role Fault) ∷ l) (own-losses who end event xs are)
  where
    same : (c n : ℕ) → ((c == c) && (n == n)) ≡ true
    same c n = grind (arith, nat_tests)
own-losses who end event (SpareLost slot ∷ xs) are =
    ap (λ (b : Bool). cond b (one who end (SpareLost slot) ∷ losses_behind (one who end event) (entries_of who end xs)) []) (same who.caller who.number)
    ∙ ap (λ (l : List Entry). one who end (SpareLost slot) ∷ l) (own-losses who end event xs are)
  where
    same : (c n : ℕ) → ((c == c) && (n == n)) ≡ true
    same c n = grind (arith, nat_tests)
own-losses who end event (x ∷ xs) are = absurd are

-- with losses alone behind it, these are all of the call's entries
pub up_to-losses : (before : List Entry) (who : Who) (end n : ℕ) (losses : List Event) → AreFaults losses
    → up_to (before ++ one who end (Resized n) ∷ entries_of who end losses) (length before) ≡ before ++ one who end (Resized n) ∷ entries_of who end losses
up_to-losses before who end n losses are =
    ap₂ (λ (a b : List Entry). a ++ first_with_losses b) (take-append_seam before (one who end (Resized n) ∷ entries_of who end losses)) (drop-append_seam before (one who end (Resized n) ∷ entries_of who end losses))
    ∙ ap (λ (l : List Entry). before ++ one who end (Resized n) ∷ l) (own-losses who end (Resized n) losses are)
