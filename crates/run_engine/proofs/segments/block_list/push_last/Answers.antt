use Rattle.std.proofs.Common.{◌≡◌, ◌+◌, ◌-◌, ◌∷◌, [], length, arith}
use Rattle.std.specs.Prelude.{Option, Some, None, IfNone, IfSome}
use Rattle.run_engine.proofs.PositionLemmas.{positions-last}
use Rattle.run_engine.proofs.BlocksLemmas.{joined-last, joined-same, starts-last}
use Rattle.run_engine.proofs.segments.block_list.push_last.Goals as goal

if_none : {X P Q : Type 0} (o : Option X) → IfNone o P → (P → Q) → IfNone o Q
if_none None p f = f p
if_none (Some x) p f = tt

if_some : {X : Type 0} (P Q : X → Type 0) (o : Option X) → IfSome o P → ((x : X) → P x → Q x) → IfSome o Q
if_some P Q None p f = tt
if_some P Q (Some x) p f = f x p

pub returns-clause-taken : goal.returns-clause-taken
returns-clause-taken c =
    let blocks = c.args.blocks.now in
    let last : c.len-len.result - 1 + 1 ≡ length c.args.blocks.now.items = omega (arith, c.len-len.ensures, c.if-len-eq0.false, blocks.ok.0) in
    if_none c.in_ok-back.back c.in_ok-back.ensures.taken
    (λ grown. joined-last c.args.blocks.now.items (c.len-len.result - 1) c.index_mut.result.now c.push.new.self (c.args.segment ∷ []) last c.index_mut.ensures.value grown)

pub returns-clause-back : goal.returns-clause-back
returns-clause-back c =
    let blocks = c.args.blocks.now in
    let last : c.len-len.result - 1 + 1 ≡ length c.args.blocks.now.items = omega (arith, c.len-len.ensures, c.if-len-eq0.false, blocks.ok.0) in
    if_some _ _ c.in_ok-back.back c.in_ok-back.ensures.back
    (λ s same. (same.0, joined-same c.args.blocks.now.items (c.len-len.result - 1) c.index_mut.result.now c.push.new.self (omega arith) c.index_mut.ensures.value same.1))

pub returns-clause-starts : goal.returns-clause-starts
returns-clause-starts c =
    let blocks = c.args.blocks.now in
    let last : c.len-len.result - 1 + 1 ≡ length c.args.blocks.now.items = omega (arith, c.len-len.ensures, c.if-len-eq0.false, blocks.ok.0) in
    starts-last 0 c.args.blocks.now.items (c.len-len.result - 1) c.push.new.self last

pub returns-clause-positions : goal.returns-clause-positions
returns-clause-positions c =
    let blocks = c.args.blocks.now in
    let last : c.len-len.result - 1 + 1 ≡ length c.args.blocks.now.items = omega (arith, c.len-len.ensures, c.if-len-eq0.false, blocks.ok.0) in
    positions-last c.args.blocks.now.items (c.len-len.result - 1) c.push.new.self last
