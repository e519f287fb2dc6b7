-- The history of an array from which nothing was taken can be relied on.
use Rattle.std.proofs.Common.{◌≡◌, ℕ, ◌+◌, Bool, true, false, ◌||◌, cond, List, [], ◌∷◌, refl, ap, ap₂, ◌∙◌, inl, arith}
use Rattle.std.specs.List.{All, list_any}
use Rattle.std.proofs.lemmas.List.Sums.{sum_by-cons}
use Rattle.history_whole_laws.specs.history_the_Entry.{Entry}
use Rattle.history_whole_laws.specs.history_the_Event.{Event}
use Rattle.history_whole_laws.specs.history_the_Event_TheVariants.{Step}
use Rattle.history_invariant.specs.history_the_StepKind_TheVariants.{TakenOver}
use Rattle.history_whole_laws.specs.history_World.{World}
use Rattle.history_invariant.specs.Safe.{is_taken_over}
use Rattle.array_reply_specs.specs.history_invariant_laws_Reliable.{IsReliable}
use Rattle.history_whole_laws.specs.Whole.{LosesNone, is_takeover, takeovers}
use Rattle.history_whole_laws.proofs.Gone.{none-lost}
use Rattle.array_whole_laws.specs.Done.{KeepsAll}

same-takeover : (event : Event) → is_taken_over event ≡ is_takeover event
same-takeover (Step TakenOver left) = refl
same-takeover event = refl

level-kept : (xs : List Entry) → takeovers xs ≡ 0 → list_any (λ e. is_taken_over e.event) xs ≡ false
level-kept [] kept = refl
level-kept (x ∷ xs) kept =
    let sum : takeovers (x ∷ xs) ≡ cond (is_takeover x.event) 1 0 + takeovers xs = sum_by-cons (λ e. cond (is_takeover e.event) 1 0) x xs in
    let rest : takeovers xs ≡ 0 = omega (arith, sum, kept) in
    ap₂ (λ a b. a || b) (same-takeover x.event ∙ by (is_takeover x.event) (sum ∙ ap (λ (n : ℕ). cond (is_takeover x.event) 1 0 + n) rest) kept) (level-kept xs rest)
  where
    by : (b : Bool) → takeovers (x ∷ xs) ≡ cond b 1 0 + 0 → takeovers (x ∷ xs) ≡ 0 → b ≡ false
    by true sum kept = absurd (omega (arith, sum, kept))
    by false sum kept = refl

-- none of its roles is told lost
pub all-relied : (world : World) (entries : List Entry) → KeepsAll world entries → All (λ e. LosesNone e.event) entries → IsReliable world entries
all-relied world entries keeps kept = record {
  fills = inl (λ role. none-lost world role entries kept keeps.level, keeps.course, level-kept entries keeps.level);
  room = keeps.room;
}
