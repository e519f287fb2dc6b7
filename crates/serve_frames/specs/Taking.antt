-- What is taken of a source for one request.
use Rattle.std.specs.Prelude.{◌≡◌, ◌≢◌, ℕ, ◌<◌, ◌≤◌, ◌++◌, ◌⊎◌, List, [], length, take, Result, OnOk, IfOk, IfErr}
use Rattle.script_io.specs.Causes.{HasRisen}
use Rattle.serve_bytes.specs.declared.exact.ReadError.{ReadError}
use Rattle.serve_bytes.specs.declared.exact.ReadError.TheVariants as reads
use Rattle.serve_frames.specs.declared.request.Request.{Request}
use Rattle.serve_frames.specs.declared.taking.FrameError.{FrameError}
use Rattle.serve_frames.specs.declared.taking.FrameError.TheVariants.{Ended, NoRequest, Failed}
use Rattle.serve_frames.specs.Commands.{payload_length}
use Rattle.serve_frames.specs.Requests.{request_bytes}

-- The bytes behind a header are taken, and no further one. Up to 1 MiB of them stand in the buffer.
pub record IsPayload (r : Request) (old new buffer : List ℕ) : Type 0 where
  pub payload : List ℕ
  pub long : length payload ≡ payload_length r.command r.length
  pub parts : old ≡ payload ++ new
  pub kept : length payload ≤ 1048576 → payload ≡ take (length payload) buffer

-- a frame, header and payload, is taken, and no further byte
pub record IsFrame (r : Request) (old new buffer : List ℕ) : Type 0 where
  pub behind : List ℕ
  pub head : old ≡ request_bytes r ++ behind
  pub payload : IsPayload r behind new buffer

-- bytes with which a frame begins, and which are not all of it
abbrev pub IsAmid : List ℕ → Type 0
IsAmid bytes = (length bytes < 28)
    ⊎ ((r : Request) × (more : List ℕ) × (bytes ≡ request_bytes r ++ more) × (length more < payload_length r.command r.length))

-- Without a request: the source ended amid a frame, or 28 bytes are no header, or a read failed amid a frame.
abbrev pub IsLost : FrameError → List ℕ → List ℕ → Type 0
IsLost Ended old new = IsAmid old × (new ≡ [])
IsLost NoRequest old new = (head : List ℕ) × (length head ≡ 28) × (old ≡ head ++ new) × ((r : Request) → head ≢ request_bytes r)
IsLost Failed old new = (some : List ℕ) × IsAmid some × (old ≡ some ++ new)

-- at Ok what a request is to have, else why there is none; where the source tells its bytes
pub record Taken (tells : Type 0) (result : Result Request FrameError) (old new : List ℕ) (P : Request → Type 0) : Type 0 where
  pub found : tells → IfOk result P
  pub lost : tells → IfErr result (λ e. IsLost e old new)

-- a payload that is cut off
abbrev pub IsCutOff : ReadError → Request → List ℕ → List ℕ → Type 0
IsCutOff (reads.Ended n) r old new = (length old < payload_length r.command r.length) × (new ≡ [])
IsCutOff reads.Failed r old new = (some : List ℕ) × (length some < payload_length r.command r.length) × (old ≡ some ++ new)

pub record PayloadTaken {T : Type 0} (tells : Type 0) (result : Result T ReadError) (r : Request) (old new buffer : List ℕ) : Type 0 where
  pub whole : tells → OnOk result (IsPayload r old new buffer)
  pub cut_off : tells → IfErr result (λ e. IsCutOff e r old new)

abbrev pub HasRisenFor : FrameError → ℕ → ℕ → Type 0
HasRisenFor Failed before now = HasRisen before now
HasRisenFor _ before now = Unit {0}

-- the source's count of faults never falls, and only a fault of the source is told as one
pub record IsBlamed (before now : ℕ) (result : Result Request FrameError) : Type 0 where
  pub never_falls : before ≤ now
  pub failed : IfErr result (λ e. HasRisenFor e before now)
