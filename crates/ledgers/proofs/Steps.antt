-- One call, and then any list of them: the strip follows the ledger. Assumes nothing.
use Rattle.std.proofs.Common.{◌≡◌, ℕ, ◌*◌, ◌<◌, Bool, true, false, ltb, List, [], ◌∷◌, length, get_or, set, Some, None, Option, sym, refl, ap, ◌∙◌, subst, ap₂, zero-add, All}
use Rattle.std.proofs.lemmas.List.{length-set}
use Rattle.std.proofs.lemmas.Bool.{ltb-true, ne_eqb, eqb-true}
use Rattle.std.proofs.lemmas.List.Elements.{All-get_or, All-head, All-set, All-tail}
use Rattle.std.proofs.lemmas.Option.{none-some}
use Rattle.std.specs.List.{concat}
use Rattle.strips.specs.declared.place.Place.{Place}
use Rattle.strips.specs.declared.fault.StripFault.{StripFault}
use Rattle.strips.specs.declared.fault.StripFault.TheVariants.{WrongMemory, NoSuchRow}
use Rattle.ledgers.specs.declared.call.Call.{Call}
use Rattle.ledgers.specs.declared.call.Act.{Act}
use Rattle.ledgers.specs.declared.call.Act.TheVariants.{Write, Exchange, Convert, Read, Stamp}
use Rattle.ledgers.specs.Rows.{Piles, IsBlock, stored, plain, each_row, cells, sealed}
use Rattle.ledgers.specs.Stamps.{stamp}
use Rattle.ledgers.specs.Ledgers.{Ledger, shown, unless, first, no_row, wrong_memory, act_refusal, fits, refusal, changed, accepted, answer_of, kept_or, refused_or, ledger_step, ledger_answer, ledger_run, ledger_answers}
use Rattle.ledgers.specs.Machine.{State, SoundAct, Sound, plain_row, place_after, cells_after, carried, reply, step, step_answer, run, run_answers}
use Rattle.ledgers.specs.Laws.{BothLawful, StandsFor}
use Rattle.ledgers.proofs.Cells.{get_or-each_row, set-each_row, each_row_twice}
use Rattle.ledgers.proofs.Places.{stored_back, cells-sealed, opened-sealed, stands_sealed, sealed_stands}

-- ---- what an accepted call tells
pub first_left : (f g : Option StripFault) → first f g ≡ None → f ≡ None
first_left None g e = refl
first_left (Some f) g e = absurd (none-some f (sym e))

pub first_right : (f g : Option StripFault) → first f g ≡ None → g ≡ None
first_right None g e = e
first_right (Some f) g e = absurd (none-some f (sym e))

pub passed : (b : Bool) (f : StripFault) → unless b f ≡ None → b ≡ true
passed true f e = refl
passed false f e = absurd (none-some f (sym e))

pub row_inside : (n i : ℕ) → no_row n i ≡ None → i < n
row_inside n i e = ltb-true i n (passed (ltb i n) (NoSuchRow i) e)

pub memory_fits : (n : ℕ) (c : Call) → refusal n c ≡ None → c.memory ≡ 16 * n
memory_fits n c e = eqb-true c.memory (16 * n) (passed (fits n c.memory) WrongMemory (first_left (wrong_memory n c.memory) (act_refusal n c.act) e))

pub act_passed : (n : ℕ) (c : Call) → refusal n c ≡ None → act_refusal n c.act ≡ None
act_passed n c e = first_right (wrong_memory n c.memory) (act_refusal n c.act) e

pub refusal_memory : (n m : ℕ) (a : Act) → (m ≡ 16 * n → ⊥) → Some WrongMemory ≡ refusal n (record { memory = m; act = a })
refusal_memory n m a ne = ap (λ b. first (unless b WrongMemory) (act_refusal n a)) (sym (ne_eqb m (16 * n) ne))

-- ---- the strip that stands for a ledger
abbrev pub state_of : Piles → Ledger → State
state_of piles l = record { rows = length l.rows; place = l.place; bytes = sealed piles l.place l.rows }

module _ (piles : Piles) (ok : BothLawful piles) where
  row_plain : (p : Place) (rows : List (List ℕ)) (i : ℕ) → All IsBlock rows → i < length rows → plain_row piles p (each_row (stored piles p) 0 rows) i ≡ get_or rows i []
  row_plain p rows i h lt =
      ap (plain piles p i) (get_or-each_row (stored piles p) 0 rows i [] lt ∙ ap (λ j. stored piles p j (get_or rows i [])) (zero-add i))
      ∙ stored_back piles ok p i (get_or rows i []) (All-get_or IsBlock rows i [] lt h)

  put_row : (p : Place) (rows : List (List ℕ)) (i : ℕ) (b : List ℕ) → set (each_row (stored piles p) 0 rows) i (stored piles p i b) ≡ each_row (stored piles p) 0 (set rows i b)
  put_row p rows i b = ap (λ j. set (each_row (stored piles p) 0 rows) i (stored piles p j b)) (sym (zero-add i)) ∙ set-each_row (stored piles p) 0 rows i b

  -- an accepted call does to the stored rows what the ledger does to the rows
  cells_follow : (a : Act) (l : Ledger) → All IsBlock l.rows → act_refusal (length l.rows) a ≡ None
      → cells_after piles a l.place (each_row (stored piles l.place) 0 l.rows) ≡ each_row (stored piles (accepted a l).place) 0 (accepted a l).rows
  cells_follow (Write i b) l h e = put_row l.place l.rows i b
  cells_follow (Exchange i j) l h e =
      let p = l.place in
      let rows = l.rows in
      let n = length rows in
      let i_in : i < n = row_inside n i (first_left (no_row n i) (no_row n j) e) in
      let j_in : j < n = row_inside n j (first_right (no_row n i) (no_row n j) e) in
      ap₂ (λ x y. set (set (each_row (stored piles p) 0 rows) i (stored piles p i x)) j (stored piles p j y)) (row_plain p rows j h j_in) (row_plain p rows i h i_in)
      ∙ ap (λ cs. set cs j (stored piles p j (get_or rows i []))) (put_row p rows i (get_or rows j []))
      ∙ put_row p (set rows i (get_or rows j [])) j (get_or rows i [])
  cells_follow (Convert d) l h e =
      each_row_twice (stored piles l.place) (λ k c. stored piles (changed d l.place) k (plain piles l.place k c)) (stored piles (changed d l.place)) IsBlock
      (λ k b hb. ap (stored piles (changed d l.place) k) (stored_back piles ok l.place k b hb)) 0 l.rows h
  cells_follow (Read i m) l h e = refl
  cells_follow (Stamp m) l h e = refl

  reply_follows : (a : Act) (l : Ledger) → All IsBlock l.rows → act_refusal (length l.rows) a ≡ None → reply piles a (state_of piles l) ≡ answer_of piles a l
  reply_follows (Write i b) l h e = refl
  reply_follows (Exchange i j) l h e = refl
  reply_follows (Convert d) l h e = refl
  reply_follows (Read i m) l h e =
      let n = length l.rows in
      let p = l.place in
      ap shown (ap (λ cs. plain_row piles p cs i) (cells-sealed piles ok p l.rows h) ∙ row_plain p l.rows i h (row_inside n i (first_left (no_row n i) _ e)))
  reply_follows (Stamp m) l h e =
      let p = l.place in
      ap (λ rows. shown (stamp piles p rows)) (opened-sealed piles ok p l.rows h)

  pub accepted-length : (a : Act) (l : Ledger) → length (accepted a l).rows ≡ length l.rows
  accepted-length (Write i b) l = length-set l.rows i b
  accepted-length (Exchange i j) l = length-set (set l.rows i (get_or l.rows j [])) j _ ∙ length-set l.rows i _
  accepted-length (Convert d) l = refl
  accepted-length (Read i m) l = refl
  accepted-length (Stamp m) l = refl

  accepted_place : (a : Act) (l : Ledger) → (accepted a l).place ≡ place_after a l.place
  accepted_place (Write i b) l = refl
  accepted_place (Exchange i j) l = refl
  accepted_place (Convert d) l = refl
  accepted_place (Read i m) l = refl
  accepted_place (Stamp m) l = refl

  accepted_blocks : (a : Act) (l : Ledger) → SoundAct a → All IsBlock l.rows → act_refusal (length l.rows) a ≡ None → All IsBlock (accepted a l).rows
  accepted_blocks (Write i b) l sound h e = All-set IsBlock l.rows i b sound h
  accepted_blocks (Exchange i j) l sound h e =
      let rows = l.rows in
      let n = length rows in
      let i_in : i < n = row_inside n i (first_left (no_row n i) (no_row n j) e) in
      let j_in : j < n = row_inside n j (first_right (no_row n i) (no_row n j) e) in
      All-set IsBlock (set rows i (get_or rows j [])) j (get_or rows i []) (All-get_or IsBlock rows i [] i_in h) (All-set IsBlock rows i (get_or rows j []) (All-get_or IsBlock rows j [] j_in h) h)
  accepted_blocks (Convert d) l sound h e = h
  accepted_blocks (Read i m) l sound h e = h
  accepted_blocks (Stamp m) l sound h e = h

  act_follows : (a : Act) (l : Ledger) → All IsBlock l.rows → act_refusal (length l.rows) a ≡ None → carried piles a (state_of piles l) ≡ state_of piles (accepted a l)
  act_follows a l h e =
      let bytes : concat (cells_after piles a l.place (cells (length l.rows) (sealed piles l.place l.rows))) ≡ sealed piles (accepted a l).place (accepted a l).rows
      = ap concat (ap (cells_after piles a l.place) (cells-sealed piles ok l.place l.rows h) ∙ cells_follow a l h e) in
      let long = sym (accepted-length a l) in
      let there = sym (accepted_place a l) in
      λ i. record { rows = long i; place = there i; bytes = bytes i }

  -- one call
  pub record Stepped (c : Call) (l : Ledger) : Type 0 where
    pub state : step piles c (state_of piles l) ≡ state_of piles (ledger_step c l)
    pub answer : step_answer piles c (state_of piles l) ≡ ledger_answer piles c l
    pub blocks : All IsBlock (ledger_step c l).rows

  pub stepped : (c : Call) (l : Ledger) → Sound c → All IsBlock l.rows → Stepped c l
  stepped c l sound h = record { state = state_at _ refl; answer = answer_at _ refl; blocks = blocks_at _ refl }
    where
      state_at : (r : Option StripFault) → refusal (length l.rows) c ≡ r → kept_or r (state_of piles l) (carried piles c.act (state_of piles l)) ≡ state_of piles (kept_or r l (accepted c.act l))
      state_at (Some f) e = refl
      state_at None e = act_follows c.act l h (act_passed (length l.rows) c e)

      answer_at : (r : Option StripFault) → refusal (length l.rows) c ≡ r
          → refused_or r (reply piles c.act (state_of piles l)) ≡ refused_or r (answer_of piles c.act l)
      answer_at (Some f) e = refl
      answer_at None e = reply_follows c.act l h (act_passed (length l.rows) c e)

      blocks_at : (r : Option StripFault) → refusal (length l.rows) c ≡ r → All IsBlock (kept_or r l (accepted c.act l)).rows
      blocks_at (Some f) e = h
      blocks_at None e = accepted_blocks c.act l sound h (act_passed (length l.rows) c e)

  -- any list of calls
  run_state : (cs : List Call) (l : Ledger) → All Sound cs → All IsBlock l.rows → run piles cs (state_of piles l) ≡ state_of piles (ledger_run cs l)
  run_state [] l sound h = refl
  run_state (c ∷ cs) l sound h =
      let one = stepped c l (All-head Sound c cs sound) h in
      ap (run piles cs) one.state ∙ run_state cs (ledger_step c l) (All-tail Sound c cs sound) one.blocks

  run_told : (cs : List Call) (l : Ledger) → All Sound cs → All IsBlock l.rows → run_answers piles cs (state_of piles l) ≡ ledger_answers piles cs l
  run_told [] l sound h = refl
  run_told (c ∷ cs) l sound h =
      let one = stepped c l (All-head Sound c cs sound) h in
      ap₂ ◌∷◌ one.answer (ap (run_answers piles cs) one.state ∙ run_told cs (ledger_step c l) (All-tail Sound c cs sound) one.blocks)

  pub run_both : (cs : List Call) (l : Ledger) → All Sound cs → All IsBlock l.rows
      → (run piles cs (state_of piles l) ≡ state_of piles (ledger_run cs l)) × (run_answers piles cs (state_of piles l) ≡ ledger_answers piles cs l)
  run_both cs l sound h = (run_state cs l sound h, run_told cs l sound h)

  pub run_blocks : (cs : List Call) (l : Ledger) → All Sound cs → All IsBlock l.rows → All IsBlock (ledger_run cs l).rows
  run_blocks [] l sound h = h
  run_blocks (c ∷ cs) l sound h = run_blocks cs (ledger_step c l) (All-tail Sound c cs sound) (stepped c l (All-head Sound c cs sound) h).blocks

  -- what stands for a ledger is that ledger's strip
  pub stands_is : (s : State) (l : Ledger) → StandsFor piles s l → s ≡ state_of piles l
  stands_is s l h =
      let bytes = stands_sealed piles ok s l h in
      let there = h.same_place in
      λ i. record { rows = h.count i; place = there i; bytes = (bytes ∙ ap (λ p. sealed piles p l.rows) there) i }

-- whatever calls it is asked, what stood for a ledger stands for that ledger, and answers as it does
pub record KeptUp (piles : Piles) (cs : List Call) (s : State) (l : Ledger) : Type 0 where
  pub answers : run_answers piles cs s ≡ ledger_answers piles cs l
  pub stands : StandsFor piles (run piles cs s) (ledger_run cs l)

pub keeps_up : (piles : Piles) → BothLawful piles → (cs : List Call) → All Sound cs → (s : State) (l : Ledger) → StandsFor piles s l → KeptUp piles cs s l
keeps_up piles ok cs sound s l h =
    let is = stands_is piles ok s l h in
    let ends = ap (run piles cs) is ∙ run_state piles ok cs l sound h.blocks in
    let last = ledger_run cs l in
    record {
      answers = ap (run_answers piles cs) is ∙ run_told piles ok cs l sound h.blocks;
      stands = subst (λ t. StandsFor piles t last) (sym ends) (sealed_stands piles ok last (run_blocks piles ok cs l sound h.blocks));
    }
