-- A bank over devices to which nothing was done yet.
use Rattle.std.proofs.Common.{◌≡◌, inl, inr, ℕ, zero, suc, ◌+◌, ◌*◌, ◌/◌, ◌^◌, ◌<◌, List, [], ◌∷◌, length, map, None, All, refl, sym, ◌∙◌, ap, arith}
use Rattle.std.proofs.lemmas.Bool.{cases_lt}
use Rattle.std.proofs.lemmas.List.{get_or_past, length-map}
use Rattle.std.proofs.lemmas.Simd.{map-map}
use Rattle.std.proofs.lemmas.List.Elements.{All-nil, All-cons, All-head, All-tail}
use Rattle.std.specs.Prelude.{slice_index}
use Rattle.bank.specs.Whole.{WritesSector}
use Rattle.bank_file.specs.Logs.{Log}
use Rattle.bank_file.specs.Images.{Files, sector_in, bytes_at, log_at, tape_of, given_of, tape_in, faults_in, IsConsistent, IsKept, IsFresh, IsFreshDevice, IsFreshImage, IsOpened}
use Rattle.bank_file.specs.declared.image.Image.{Image}
use Rattle.bank_file.proofs.Consistent.{sector-same}

-- what holds of each element of the image of a list
pub all_unmapped : {X Y : Type 0} (P : Y → Type 0) (f : X → Y) (xs : List X) → All P (map f xs) → All (λ x. P (f x)) xs
all_unmapped P f [] all = All-nil (λ x. P (f x))
all_unmapped P f (x ∷ xs) all = All-cons (λ x. P (f x)) x xs (All-head P (f x) (map f xs) all) (all_unmapped P f xs (All-tail P (f x) (map f xs) all))

pub none_failed : {D : Type 0} (images : List (Image D)) → All (λ image. image.faults ≡ 0) images → (s : ℕ) → slice_index (map (λ (image : Image D). image.faults) images) s ≡ 0
none_failed [] none s = refl
none_failed (image ∷ images) none zero = All-head (λ image. image.faults ≡ 0) image images none
none_failed (image ∷ images) none (suc s) = none_failed images (All-tail (λ image. image.faults ≡ 0) image images none) s

module _ {X : Type 0} (start bytes : X → ℕ → ℕ) (log : X → Log) where
  known_fresh : (xs : List X) (s : ℕ) → All (λ x. IsFresh (start x) (bytes x) (log x)) xs → s < length xs → IsFresh (bytes_at (map start xs) s) (bytes_at (map bytes xs) s) (log_at (map log xs) s)
  known_fresh [] s fresh lt = absurd (omega (arith, lt))
  known_fresh (x ∷ xs) zero fresh lt = All-head (λ x. IsFresh (start x) (bytes x) (log x)) x xs fresh
  known_fresh (x ∷ xs) (suc s) fresh lt = known_fresh xs s (All-tail (λ x. IsFresh (start x) (bytes x) (log x)) x xs fresh) (omega (arith, lt))

  pub each_fresh : (xs : List X) → All (λ x. IsFresh (start x) (bytes x) (log x)) xs → (s : ℕ) → IsFresh (bytes_at (map start xs) s) (bytes_at (map bytes xs) s) (log_at (map log xs) s)
  each_fresh xs fresh s = elim (cases_lt s (length xs)) [
    | inl known ↦ known_fresh xs s fresh known
    | inr past ↦
        let first : bytes_at (map start xs) s ≡ (λ i. 0) = get_or_past (map start xs) s (λ i. 0) (omega (arith, past, length-map xs start)) in
        let now : bytes_at (map bytes xs) s ≡ (λ i. 0) = get_or_past (map bytes xs) s (λ i. 0) (omega (arith, past, length-map xs bytes)) in
        let none : log_at (map log xs) s ≡ (λ i. None) = get_or_past (map log xs) s (λ i. None) (omega (arith, past, length-map xs log)) in record {
          as_it_was = λ i. ap (λ (f : ℕ → ℕ). f i) now ∙ sym (ap (λ (f : ℕ → ℕ). f i) first);
          nothing = λ i. ap (λ (f : Log). f i) none;
          small = λ i. let zero_here = ap (λ (f : ℕ → ℕ). f i) first in omega (arith, zero_here);
        }
  ]

  pub fresh_consistent : (xs : List X) → All (λ x. IsFresh (start x) (bytes x) (log x)) xs → IsConsistent (map start xs) (map bytes xs) (map log xs) 0
  fresh_consistent xs fresh = record {
    free = λ s i past. (each_fresh xs fresh s).nothing i;
    present = λ s k known. sector-same (bytes_at (map start xs) s) (bytes_at (map bytes xs) s) k (λ j lt. (each_fresh xs fresh s).as_it_was (512 * k + j));
    written = All-nil WritesSector;
    stored = λ s i. (each_fresh xs fresh s).small i;
  }

module _ {D tells : Type 0} (start bytes : D → ℕ → ℕ) (log : D → Log) where
  pub fresh_kept : (images : List (Image D)) → length images < 2 ^ 32 → (tells → All (IsFreshImage start bytes log) images) → IsKept tells start bytes log images 0
  fresh_kept images few fresh = record { few = few; told = λ told. fresh_consistent (λ (image : Image D). start image.device) (λ (image : Image D). bytes image.device) (λ (image : Image D). log image.device) images (fresh told) }

  pub opened : (size : D → ℕ) (devices : List D) (files : Files D) → map (λ (image : Image D). image.device) files.images ≡ devices → map (λ (image : Image D). image.sectors) files.images ≡ map (λ device. size device / 512) devices
      → All (λ image. image.faults ≡ 0) files.images → files.ops ≡ 0 → (tells → All (IsFreshDevice start bytes log) devices) → IsOpened tells size bytes devices (given_of start files) (faults_in files) (tape_in log files)
  opened size devices files are long none ops fresh = record {
    slots = sym (length-map files.images (λ (image : Image D). image.device)) ∙ ap (λ (l : List D). length l) are;
    sectors = λ s. ap (λ (l : List ℕ). slice_index l s) long;
    start = λ told s k.
        let same : map (λ (image : Image D). start image.device) files.images ≡ map start devices = sym (map-map start (λ (image : Image D). image.device) files.images) ∙ ap (λ (l : List D). map start l) are in
        ap (λ (l : List (ℕ → ℕ)). sector_in (bytes_at l s) k) same
        ∙ sector-same (bytes_at (map bytes devices) s) (bytes_at (map start devices) s) k (λ j lt. sym ((each_fresh start bytes log devices (fresh told) s).as_it_was (512 * k + j)));
    unfailed = none_failed files.images none;
    empty = ap (λ (n : ℕ). tape_of (map (λ (image : Image D). log image.device) files.images) n) ops;
  }
