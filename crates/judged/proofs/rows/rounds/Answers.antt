use Rattle.std.proofs.Common.{[], ◌∷◌, ◌∙◌, append_assoc, add-one}
use Rattle.std.proofs.lemmas.Slice.{pushed}
use Rattle.calls.specs.declared.types.Call.TheVariants.{Tell, Round}
use Rattle.judged.proofs.rows.rounds.Goals as goal

pub loop-k-preserved : goal.loop-k-preserved
loop-k-preserved c =
    let told = pushed (Tell c.args.rule ∷ []) c.loop-k.invariant c.in_ok-push.was c.push.ensures.items in
    rw add-one (pushed (Round c.args.rule ∷ []) told c.in_ok-push-2.was c.push-in-loop-k.ensures.items ∙ simp append_assoc)
