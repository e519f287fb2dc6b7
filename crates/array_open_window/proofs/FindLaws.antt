-- The sectors of the section that is found in the backup.
use Rattle.std.proofs.Common.{◌≡◌, ◌⊎◌, inl, inr, ℕ, ◌+◌, ◌-◌, ◌*◌, ◌/◌, ◌≤◌, true, List, length, take, drop, Result, Ok, Err, IfOk, sym, ◌∙◌, ap, subst, arith}
use Rattle.std.proofs.lemmas.List.{length-take-le}
use Rattle.array_reshaping_state.specs.raid_types_the_Span.{Span}
use Rattle.array_reshaping_state.specs.raid_types_Sectors.{Sector}
use Rattle.array_reshaping_state.specs.bank_Tape.{AreSectors}
use Rattle.array_reshaping_state.specs.reshape_request_the_Window.{Window}
use Rattle.array_reshaping_state.specs.reshape_request_the_Window_TheVariants.{Closed, Entered}
use Rattle.array_open_window.specs.Finding.{bytes_for, AreOfSection, IsFoundIn}

module _ (slot : ℕ → Sector) (span : Span) (buffer : List ℕ) (room : 512 * (span.hi - span.lo) ≤ length buffer) where
  taken : length (take (512 * (span.hi - span.lo)) buffer) ≡ 512 * (span.hi - span.lo)
  taken = length-take-le (512 * (span.hi - span.lo)) buffer room

  whole : (n : ℕ) → 512 * n / 512 ≡ n
  whole n = omega arith

  pub section-found : AreSectors slot 8 (take (512 * (span.hi - span.lo)) buffer) → AreOfSection slot span (take (512 * (span.hi - span.lo)) buffer)
  section-found are = record {
    room = taken;
    each = λ i lt.
        let step : 512 * i + 512 - 512 * i ≡ 512 = omega arith in
        let n : length (take (512 * (span.hi - span.lo)) buffer) / 512 ≡ span.hi - span.lo = ap (λ (k : ℕ). k / 512) taken ∙ whole (span.hi - span.lo) in
        ap (λ (k : ℕ). take k (drop (512 * i) (take (512 * (span.hi - span.lo)) buffer))) step ∙ are i (omega (arith, lt, n));
  }

pub sectors-found : (slot : ℕ → Sector) (span : Span) (buffer : List ℕ) (window : Window) → 512 * (span.hi - span.lo) ≤ length buffer → (window ≡ Closed) ⊎ (window ≡ Entered span 0 true)
    → (window ≡ Entered span 0 true → AreSectors slot 8 (take (512 * (span.hi - span.lo)) buffer)) → IsFoundIn slot window (bytes_for window buffer)
sectors-found slot span buffer window room (inl closed) are = subst (λ (w : Window). IsFoundIn slot w (bytes_for w buffer)) (sym closed) tt
sectors-found slot span buffer window room (inr entered) are = subst (λ (w : Window). IsFoundIn slot w (bytes_for w buffer)) (sym entered) (section-found slot span buffer room (are entered))

pub ok-found : {E : Type 0} (tells : Type 0) (slot : ℕ → Sector) (span : Span) (buffer : List ℕ) (result : Result Window E) → 512 * (span.hi - span.lo) ≤ length buffer
    → IfOk result (λ window. (window ≡ Closed) ⊎ (window ≡ Entered span 0 true)) → (result ≡ Ok (Entered span 0 true) → tells → AreSectors slot 8 (take (512 * (span.hi - span.lo)) buffer))
    → IfOk result (λ window. tells → IsFoundIn slot window (bytes_for window buffer))
ok-found tells slot span buffer (Ok window) room either are = λ t. sectors-found slot span buffer window room either (λ entered. are (ap (λ (w : Window). Ok w) entered) t)
ok-found tells slot span buffer (Err fault) room either are = tt
