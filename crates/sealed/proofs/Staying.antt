-- A strip that goes where it is already.
use Rattle.std.proofs.Common.{◌≡◌, ℕ, ◌*◌, List, length, None, Ok, sym, ap, ◌∙◌}
use Rattle.std.proofs.lemmas.Bool.{eq-eqb}
use Rattle.std.specs.List.{concat}
use Rattle.ledgers.specs.Rows.{Piles, Small, cells}
use Rattle.ledgers.specs.Ledgers.{changed, done, first, kept_or, refusal, refused_or, unless}
use Rattle.ledgers.specs.Machine.{State, carried, moved}
use Rattle.ledgers.specs.Laws.{BothLawful}
use Rattle.strips.specs.declared.place.Station.{Station}
use Rattle.ledgers.specs.declared.call.Act.{Act}
use Rattle.ledgers.specs.declared.call.Act.TheVariants.{Convert}
use Rattle.ledgers.specs.declared.call.Change.TheVariants.{Turn}
use Rattle.strips.specs.declared.fault.StripFault.TheVariants.{WrongMemory}
use Rattle.ledgers.proofs.Places.{moved_same}
use Rattle.sealed.specs.Calls.{Does, at_place, call, returned, state}
use Rattle.sealed.specs.declared.strip.Strip.{Strip}

module _ (piles : Piles) (ok : BothLawful piles) (s : Strip) (m : List ℕ) (wanted : Station) (long : length m ≡ 16 * s.rows.count) (small : Small m) (e : s.place.station ≡ wanted) where
  abbrev act : Act
  act = Convert (Turn wanted)

  abbrev after : State
  after = carried piles act (state s m)

  passes : refusal s.rows.count (call act m) ≡ None
  passes = ap (λ b. first (unless b WrongMemory) None) (eq-eqb (length m) (16 * s.rows.count) long)

  there : s.place ≡ changed (Turn wanted) s.place
  there i = record { number = s.place.number; station = e i; pile = s.place.pile }

  pub stays : Does piles act s s m m (Ok tt)
  stays = record {
    result = ap (λ r. returned (refused_or r done)) (sym passes);
    strip = ap (λ p. at_place p s) there ∙ ap (λ r. at_place (kept_or r (state s m) after).place s) (sym passes);
    memory =
        sym (moved_same piles ok s.place s.rows.count m long small)
        ∙ ap (λ p. concat (moved piles s.place p (cells s.rows.count m))) there
        ∙ ap (λ r. (kept_or r (state s m) after).bytes) (sym passes);
  }
