use Rattle.std.proofs.Common.{ℕ, List, map, replicate, refl, ap, rules}
use Rattle.aes.specs.declared.keys.RoundKey.{RoundKey}
use Rattle.aes.specs.Keys.{round_key, row, schedule}
use Rattle.aes.proofs.Schedule.{keyed_none, keyed_step, keyed_all, scheduled}
use Rattle.aes.proofs.keys.KeySet.new.Goals as goal

abbrev bytes : RoundKey → List ℕ
bytes k = k.bytes

pub loop-i-init : goal.loop-i-init
loop-i-init c = keyed_none (replicate 17 c.args.key) refl

pub loop-i-preserved : goal.loop-i-preserved
loop-i-preserved c =
    keyed_step bytes c.args.key c.loop-i.rows c.loop-i.i _ (record { bytes = c.next_key-bytes.result })
    c.loop-i.invariant c.loop-i-test.true
    c.next_key-bytes.ensures

pub invariant_of-result : goal.invariant_of-result
invariant_of-result c =
    let rows = map bytes c.loop-i.rows in
    let made = keyed_all c.args.key rows c.loop-i.i c.loop-i.invariant c.loop-i-test.false in
    record { scheduled = scheduled c.args.key rows (search rules, λ j. search rules) made }

pub returns : goal.returns
unfolding schedule round_key
returns c =
    let made = keyed_all c.args.key (map bytes c.loop-i.rows) c.loop-i.i c.loop-i.invariant c.loop-i-test.false in
    record { key = ap (λ r. row r 0) made; rows = made }
