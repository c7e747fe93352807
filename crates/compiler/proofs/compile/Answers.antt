use Rattle.std.proofs.Common.{◌≡◌, true, sym, ◌∙◌, rules}
use Rattle.calculus.specs.Text.{within}
use Rattle.compiler.specs.Compile.{moved_by}
use Rattle.compiler.proofs.Placing.{Within, Small, small, ready, answered, left}
use Rattle.compiler.proofs.compile.Goals.{In_ok-sizes, After-emit-used}
use Rattle.compiler.proofs.compile.Goals as goal

-- the counts were within the tables, and what is wanted of each is a count
module _ (c : In_ok-sizes) where
  fit : within c.args.area.now.counts c.rooms_of-rooms.result ≡ true
  fit = sym c.fits_in.ensures ∙ c.if-not-fits_in.false

  wanted : Small c.args.rows.now c.args.givens c.args.area.now.tables c.args.area.now.counts c.rooms_of-rooms.result c.in_ok-sizes.sizes c.rooms_of-rooms.ensures fit c.in_ok-sizes.ensures.accepts
  wanted = small c.args.rows.now c.args.givens c.args.area.now.tables c.args.area.now.counts c.rooms_of-rooms.result c.in_ok-sizes.sizes c.rooms_of-rooms.ensures fit c.in_ok-sizes.ensures.accepts

pub overflow_add-guard : goal.overflow_add-guard
overflow_add-guard c = let h = (wanted (goal.at.overflow_add-guard c).In_ok-sizes).contents in search rules

pub overflow_add-guard-2 : goal.overflow_add-guard-2
overflow_add-guard-2 c = let h = (wanted (goal.at.overflow_add-guard-2 c).In_ok-sizes).operations in search rules

pub overflow_add-guard-3 : goal.overflow_add-guard-3
overflow_add-guard-3 c = let h = (wanted (goal.at.overflow_add-guard-3 c).In_ok-sizes).methods in search rules

pub emit-used-requires : goal.emit-used-requires
emit-used-requires c =
    ready c.args.rows.now c.args.givens c.args.area.now.tables c.args.area.now.counts c.rooms_of-rooms.result c.in_ok-sizes.sizes c.rooms_of-rooms.ensures (fit (goal.at.emit-used-requires c).In_ok-sizes) c.in_ok-sizes.ensures.accepts
    (record { contents = c.if-guard-rooms.false; operations = c.if-guard-rooms-2.false; methods = c.if-guard-rooms-3.false })

pub returns : goal.returns
returns c =
    let fit = fit (goal.at.returns c).In_ok-sizes in
    let room : Within (moved_by c.args.area.now.counts c.in_ok-sizes.sizes) c.rooms_of-rooms.result = record { contents = c.if-guard-rooms.false; operations = c.if-guard-rooms-2.false; methods = c.if-guard-rooms-3.false } in
    record {
      answer = answered c.args.rows.now c.args.givens c.args.area.now.tables c.args.area.now.counts c.rooms_of-rooms.result c.in_ok-sizes.sizes c.rooms_of-rooms.ensures fit c.in_ok-sizes.ensures.accepts room c.in_ok-sizes.ensures.verdict;
      leaves = left c.args.rows.now c.args.givens c.args.area.now.tables c.args.area.now.counts c.rooms_of-rooms.result c.in_ok-sizes.sizes c.rooms_of-rooms.ensures fit c.in_ok-sizes.ensures.accepts room c.emit-used.new.tables c.emit-used.result _ c.emit-used.ensures c.disarm.ensures;
    }
