-- The list stands with the length that is told, so that a change of length is what the bank says.
use Rattle.std.proofs.Common.{◌≡◌, ℕ, ◌≤◌, ◌||◌, Bool, false, List, [], ◌∷◌, ◌++◌, length, take_all, sym, ◌∙◌, ap, ap₂, subst, arith}
use Rattle.std.specs.List.{list_any, All}
use Rattle.std.proofs.lemmas.List.Elements.{All-nil, All-cons, All-head, All-tail, All-append}
use Rattle.std.proofs.lemmas.List.Folds.{list_any-append}
use Rattle.array_call_specs.specs.bank_the_Operation.{Operation}
use Rattle.array_call_specs.specs.bank_Given.{Given}
use Rattle.array_call_specs.specs.bank_Tape.{Contents, contents, IsDrawn, IsIn, disk, value_after}
use Rattle.array_call_specs.proofs.bank_Images.{disk-some}
use Rattle.array_call_specs.specs.sb_specs_the_Members.{Members}
use Rattle.array_call_specs.specs.sb_specs_Reading.{Scope}
use Rattle.array_call_specs.specs.history_the_Entry.{Entry}
use Rattle.array_call_specs.specs.history_the_Event.{Event}
use Rattle.array_call_specs.specs.history_the_Event_TheVariants.{Resized}
use Rattle.array_call_specs.specs.history_Growing.{grown, EndBy}
use Rattle.array_call_specs.specs.history_Reshaped.{is_done}
use Rattle.array_call_specs.specs.history_Sound.{OpensFit}
use Rattle.array_call_specs.specs.history_Stands.{stands}
use Rattle.array_call_specs.specs.history_World.{World, contents_at}
use Rattle.array_call_specs.specs.crash_views_Views.{Ledger}
use Rattle.array_call_specs.proofs.crash_views_Standing.{read-length}
use Rattle.array_call_specs.specs.crash_safety_laws_Steady.{AreViewsRight, IsSafeOver}
use Rattle.array_call_specs.proofs.crash_safety_laws_Steady.{safe-is-seen}
use Rattle.history_invariant.specs.Recorded.{IsLengthKept, IsOpenBehind}
use Rattle.history_invariant.specs.Safe.{world_in}
use Rattle.history_invariant.proofs.Growing.{contents-grown}

-- ---- the contents now

-- they are among what a stop may leave
pub now-drawn : (given : Given) (tape : List Operation) → IsDrawn (disk given.start tape) (contents given.start tape (length tape))
now-drawn given tape s k =
    subst (λ (l : List Operation). IsIn (disk given.start tape s k) (value_after s k (given.start s k) l)) (sym (take_all (length tape) tape (omega arith))) (disk-some given.start tape s k)

-- where each view is right, the list stands with the length that is told
pub length-stands : (sound : Type 0) (scope : Scope) (given : Given) (told : Ledger) (tape : List Operation) → AreViewsRight sound scope given told (disk given.start tape)
    → length (stands scope (contents given.start tape (length tape))) ≡ told.size
length-stands sound scope given told tape views =
    let seen = views (contents given.start tape (length tape)) (record { eighth = λ s looked. now-drawn given tape s 8; ninth = λ s looked. now-drawn given tape s 9 }) in
    read-length scope given seen.view seen.right.placed (contents given.start tape (length tape)) seen.found seen.same seen.is ∙ seen.right.sized

-- so it does at the end of a call that leaves the array safe by that
pub length-now : (given : Given) (tape : List Operation) (scope : Scope) (first : ℕ) (told : Ledger) (members : Members) → IsSafeOver (world_in given tape scope first) given told members tape
    → told.size ≡ length (stands scope (contents_at (world_in given tape scope first) (length tape)))
length-now given tape scope first told members safe =
    sym (length-stands (OpensFit (world_in given tape scope first)) scope given told tape (safe-is-seen (OpensFit (world_in given tape scope first)) scope given told members tape safe))

-- ---- a call that goes on

pub kept-grown : (world : World) (ops : List Operation) (end : ℕ) (event : Event) → end ≤ length world.tape → IsLengthKept world end event → IsLengthKept (grown world ops) end event
kept-grown world ops end (Resized n) made kept = kept ∙ ap (λ (c : Contents). length (stands world.scope c)) (sym (contents-grown world ops end made))
kept-grown world ops end event made kept = tt

pub all-grown : (world : World) (ops : List Operation) (xs : List Entry) → EndBy (length world.tape) xs → All (λ e. IsLengthKept world e.end e.event) xs → All (λ e. IsLengthKept (grown world ops) e.end e.event) xs
all-grown world ops [] ends kept = All-nil (λ e. IsLengthKept (grown world ops) e.end e.event)
all-grown world ops (x ∷ xs) ends kept =
    All-cons (λ e. IsLengthKept (grown world ops) e.end e.event) x xs (kept-grown world ops x.end x.event ends.0 (All-head (λ e. IsLengthKept world e.end e.event) x xs kept))
    (all-grown world ops xs ends.1 (All-tail (λ e. IsLengthKept world e.end e.event) x xs kept))

-- what was left open by none of its entries is so still, with more such entries behind
pub open-more : (world : World) (ops : List Operation) (call added : List Entry) → EndBy (length world.tape) call → IsOpenBehind world call
    → All (λ e. IsLengthKept (grown world ops) e.end e.event) added → list_any (λ e. is_done e.event) added ≡ false → IsOpenBehind (grown world ops) (call ++ added)
open-more world ops call added made was kept steps = record {
  kept = All-append (λ e. IsLengthKept (grown world ops) e.end e.event) call added (all-grown world ops call made was.kept) kept;
  steps = list_any-append (λ e. is_done e.event) call added ∙ ap₂ (λ (a b : Bool). a || b) was.steps steps;
}
