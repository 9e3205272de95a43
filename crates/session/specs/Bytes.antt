-- A session, byte by byte of its input.
-- Assumes nothing.
use Rattle.std.specs.Prelude.{◌≡◌, Bool, List, [], ◌∷◌, ℕ, ◌+◌, leb}
use Rattle.digits.specs.Choice.{pick}
use Rattle.script.specs.Input.{Taken, taken_of, end_of}
use Rattle.script.specs.declared.input.Reader.{Reader}
use Rattle.script.specs.declared.turns.Turn.{Turn}
use Rattle.answers.specs.Answers.{Page, room_of}
use Rattle.answers.specs.declared.Answer.{Answer}
use Rattle.turns.specs.Turns.{Memory, memory, leaves, answers_of, printed}
use Rattle.session.specs.declared.Session.{Session as Held}

-- all that a session holds: the reader, and what the turns act on
pub record Session : Type 0 where
  pub reader : Reader
  pub memory : Memory

abbrev pub session : Reader → Memory → Session
session r m = record { reader = r; memory = m }

-- a session of the code's
abbrev pub held : Held → Session
held s = session s.reader (memory s.pool.now s.map.now)

-- the same pool and the same map
pub record Same (s s' : Held) : Type 0 where
  pub pool : s'.pool.ghost_name ≡ s.pool.ghost_name
  pub map : s'.map.ghost_name ≡ s.map.ghost_name

-- what a byte of the input does
abbrev pub taken : ℕ → Session → Taken
taken byte s = taken_of s.reader byte

abbrev pub after_byte : ℕ → Session → Session
after_byte byte s = session (taken byte s).reader (leaves (taken byte s).turn s.memory)

abbrev pub said_at : ℕ → Session → List Answer
said_at byte s = answers_of (taken byte s).turn s.memory

-- what the end of the input does
abbrev pub last_turn : Session → Turn
last_turn s = (end_of s.reader).turn

abbrev pub after_end : Session → Session
after_end s = session (end_of s.reader).reader (leaves (last_turn s) s.memory)

-- "The last line may lack its newline."
abbrev pub said_last : Session → List Answer
said_last s = answers_of (last_turn s) s.memory

-- a session, and the page that its answers go onto
pub record Stream : Type 0 where
  pub session : Session
  pub page : Page

abbrev pub stream : Session → Page → Stream
stream s p = record { session = s; page = p }

abbrev pub on_byte : ℕ → Stream → Stream
on_byte byte s = stream (after_byte byte s.session) (printed (said_at byte s.session) s.page)

abbrev pub on_end : Stream → Stream
on_end s = stream (after_end s.session) (printed (said_last s.session) s.page)

-- bytes that a turn prints, at most: 256 entries of 40 bytes each, and their count, which is 23
abbrev pub most : ℕ
most = 10263

-- whether a page has room for what any turn prints
abbrev pub roomy : Page → Bool
roomy p = leb most (room_of p)

-- how many bytes were taken, and the stream after them
pub record Going : Type 0 where
  pub used : ℕ
  pub stream : Stream

abbrev pub going : ℕ → Stream → Going
going used s = record { used = used; stream = s }

-- bytes are taken as long as the page has room
unfoldable pub run_of : List ℕ → Stream → Going
run_of [] s = going 0 s
run_of (byte ∷ input) s = pick (roomy s.page) (going ((run_of input (on_byte byte s)).used + 1) (run_of input (on_byte byte s)).stream) (going 0 s)
