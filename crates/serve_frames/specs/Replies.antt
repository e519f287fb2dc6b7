-- The bytes of a simple reply's header, all numbers big-endian.
use Rattle.std.specs.Prelude.{ℕ, ◌++◌, List}
use Rattle.std.specs.Int.{w32, w64, to_be_bytes}
use Rattle.serve_frames.specs.declared.reply.Reply.{Reply}
use Rattle.serve_frames.specs.Errors.{outcome_number}

-- a magic number, then the error and the request's cookie: 16 bytes
unfoldable pub reply_bytes : Reply → List ℕ
reply_bytes r = to_be_bytes w32 0x67446698 ++ (to_be_bytes w32 (outcome_number r.error) ++ to_be_bytes w64 r.cookie)
