-- The stream on paper: REQUIREMENT.md, section 7. It is told what start and each call after it are handed, the reader aside. Stated. Assumes nothing.
use Rattle.std.specs.Prelude.{Bool, true, false, cond, List, [], ◌∷◌, ◌++◌, ◌≡◌, ℕ, ◌+◌, eqb, length, Ok, Err, Some, None}
use Rattle.table.specs.Table.{Table}
use Rattle.book.specs.Entry.{Entry}
use Rattle.verdict.specs.declared.Verdict.{Verdict}
use Rattle.verdict.specs.declared.Verdict.TheVariants as Is
use Rattle.verdict.specs.Verdict.{Judged}
use Rattle.reader.specs.declared.Refusal.{Refusal}
use Rattle.reader.specs.Answer.{Answer}
use Rattle.reader.specs.Refusals.{call_gate, through}

-- a call after start: its table, its buffer, and a feed's piece
pub data Call : Type 0 where
  feed : Table → List ℕ → List ℕ → Call
  close : Table → List ℕ → Call

-- what a call answers: the count of bytes read, and a verdict, none or a refusal
pub record Heard : Type 0 where
  pub count : ℕ
  pub answer : Answer

-- a judge of parts: whether the part is in the head, and the part
abbrev pub Judge : Type 0
Judge = Bool → List ℕ → Verdict

-- the judge J gives each part its verdict, with n frames and the entries of the book; a part in the head has 15
pub record Judges (es : List Entry) (n : ℕ) (J : Judge) : Type 0 where
  pub head : (p : List ℕ) → J true p ≡ Is.Head
  pub part : (p : List ℕ) → Judged es n p (J false p)

-- ---- what the paper holds: whether it is in the head, at first yes, and a part, at first empty

pub record Paper : Type 0 where
  pub head : Bool
  pub part : List ℕ

abbrev pub opening : Paper
opening = record { head = true; part = [] }

abbrev pub nonempty : List ℕ → Bool
nonempty [] = false
nonempty (b ∷ s) = true

-- what the paper says to a call, and holds after it
pub record Said : Type 0 where
  pub paper : Paper
  pub count : ℕ
  pub answer : Answer

-- a feed goes through its piece; i bytes of it are read. A byte other than RS joins the part. An RS first gives a nonempty part its
-- verdict and empties it, then ends the head; after a verdict the feed ends
unfoldable pub goes : Judge → Paper → ℕ → List ℕ → Said
goes J p i [] = record { paper = p; count = i; answer = Ok None }
goes J p i (b ∷ s) =
    cond (eqb b 0x1E)
    (cond (nonempty p.part)
    (record { paper = record { head = false; part = [] }; count = i + 1; answer = Ok (Some (J p.head p.part)) })
    (goes J (record { head = false; part = [] }) (i + 1) s))
    (goes J (record { head = p.head; part = p.part ++ (b ∷ []) }) (i + 1) s)

-- a close gives a nonempty part its verdict, else none, empties it, and is in the head again
abbrev pub ends : Judge → Paper → Said
ends J p =
    record { paper = opening; count = 0; answer = cond (nonempty p.part) (Ok (Some (J p.head p.part))) (Ok None) }

-- a call that the rules refuse, n frames being counted at start, changes nothing, reads nothing and gives no verdict. The paper has no reader, so
-- none is out of its bounds
abbrev pub refuses : ℕ → Paper → Table → List ℕ → Said → Said
refuses n p t w said =
    through (call_gate true n t (length w)) (λ (k : Refusal). record { paper = p; count = 0; answer = Err k }) said

abbrev pub says : Judge → ℕ → Paper → Call → Said
says J n p (feed t w s) = refuses n p t w (goes J p 0 s)
says J n p (close t w) = refuses n p t w (ends J p)

-- the answers to a list of calls
unfoldable pub told : Judge → ℕ → Paper → List Call → List Heard
told J n p [] = []
told J n p (c ∷ cs) = record { count = (says J n p c).count; answer = (says J n p c).answer } ∷ told J n (says J n p c).paper cs
