-- What is answered stays so, whatever more is seen.
use Rattle.std.proofs.Common.{◌≡◌, ℕ, zero, suc, ◌≤◌, List, [], ◌∷◌, ◌++◌, length, take, refl, sym, subst, subst₂, Option, Some, None, MatchOption, slice_get, arith}
use Rattle.std.proofs.lemmas.List.{take-append-le}
use Rattle.std.proofs.lemmas.Option.{slice_get_within}
use Rattle.history.specs.bank_the_Operation.{Operation}
use Rattle.history.specs.declared.events.Entry.{Entry}
use Rattle.history.specs.declared.events.Request.{Request}
use Rattle.history.specs.World.{World}
use Rattle.history.specs.Fits.{Fits}
use Rattle.history.specs.Growing.{grown, EndBy}
use Rattle.history.specs.Seen.{AreAnswered, AnswersStay}
use Rattle.history_laws.proofs.ReshapedLaws.{replies-stay-fit}

-- an entry stays at its place, and ended by the mark
there : (entries added : List Entry) (place : ℕ) (e : Entry) → slice_get entries place ≡ Some e → slice_get (entries ++ added) place ≡ Some e
there [] added place e is = absurd (cc)
there (x ∷ entries) added zero e is = is
there (x ∷ entries) added (suc place) e is = there entries added place e is

ended : (mark : ℕ) (entries : List Entry) (place : ℕ) (e : Entry) → EndBy mark entries → slice_get entries place ≡ Some e → e.end ≤ mark
ended mark [] place e ends is = absurd (cc)
ended mark (x ∷ entries) zero e ends is = subst (λ y. y.end ≤ mark) (same x e is) ends.0
  where
    same : (x e : Entry) → Some x ≡ Some e → x ≡ e
    same x e is = cc
ended mark (x ∷ entries) (suc place) e ends is = ended mark entries place e ends.1 is

module _ (world : World) (entries added : List Entry) (ops : List Operation) (ends : EndBy (length world.tape) entries) where
  one-answer : (request : Request) (place : ℕ) → MatchOption (slice_get entries place) ⊥ (λ e. Fits world (take place entries) e request)
      → MatchOption (slice_get (entries ++ added) place) ⊥ (λ e. Fits (grown world ops) (take place (entries ++ added)) e request)
  one-answer request place = by_entry (slice_get entries place) refl
    where
      by_entry : (found : Option Entry) → slice_get entries place ≡ found → MatchOption found ⊥ (λ e. Fits world (take place entries) e request)
          → MatchOption (slice_get (entries ++ added) place) ⊥ (λ e. Fits (grown world ops) (take place (entries ++ added)) e request)
      by_entry None is fits = absurd fits
      by_entry (Some e) is fits =
          let before : take place (entries ++ added) ≡ take place entries =
          take-append-le place entries added (omega (arith, slice_get_within entries place e is)) in
          let stays : Fits (grown world ops) (take place entries) e request =
          replies-stay-fit world (take place entries) e request ops (ended (length world.tape) entries place e ends is) fits in
          subst (λ found. MatchOption found ⊥ (λ e. Fits (grown world ops) (take place (entries ++ added)) e request)) (sym (there entries added place e is))
          (subst (λ l. Fits (grown world ops) l e request) (sym before) stays)

  all-answers : (requests : List (Request × ℕ)) → AreAnswered world entries requests → AreAnswered (grown world ops) (entries ++ added) requests
  all-answers [] answered = tt
  all-answers (request ∷ more) answered = (one-answer request.0 request.1 answered.0, all-answers more answered.1)

same-world : (seen more : World) (ops : List Operation) → more.start ≡ seen.start → more.tape ≡ seen.tape ++ ops → more.scope ≡ seen.scope
    → more.first ≡ seen.first → more ≡ grown seen ops
same-world seen more ops start tape scope first = λ i. record { start = start i; tape = tape i; scope = scope i; first = first i }

pub answers-stay : AnswersStay
answers-stay seen more requests whole begins answered =
    let tape : (ops : List Operation) × (more.world.tape ≡ seen.world.tape ++ ops) = begins.tape tt in
    let world : more.world ≡ grown seen.world tape.0 =
    same-world seen.world more.world tape.0 (begins.start tt) tape.1 begins.scope begins.first in
    subst₂ (λ w l. AreAnswered w l requests) (sym world) (sym begins.entries.1)
    (all-answers seen.world seen.entries begins.entries.0 tape.0 (whole.ended tt) requests answered)
