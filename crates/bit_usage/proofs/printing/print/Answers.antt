use Rattle.std.proofs.Common.{◌∙◌, sym, ap, arith}
use Rattle.std.proofs.lemmas.List.{append-nil}
use Rattle.rc_base.specs.Buffers.{Roomy}
use Rattle.mode_rules.specs.declared.domain_use.DomainUse.{DomainUse}
use Rattle.bit_usage.proofs.Domains.{usage_text-first, length-usage_text_first, usage_text-next, length-usage_text_next, usage_text-nil}
use Rattle.bit_usage.proofs.printing.print.Goals as goal
use Rattle.bit_usage.proofs.printing.print.Goals.{then-id-gt0, else-id-gt0}

-- what stands for an element past the end
abbrev nobody : DomainUse
nobody = record { hardware = 0; shared = 0; exclusive = 0; region = 0 }

pub loop-id-init : goal.loop-id-init
loop-id-init c = rw (usage_text-nil c.args.ways) (record { bytes = sym (append-nil c.args.out.now.bytes); spare = omega arith; room = omega arith })

pub loop-id-preserved : goal.loop-id-preserved
loop-id-preserved c =
    let ways = c.args.ways in
    let used = c.args.used.now in
    let id = c.loop-id.id in
    elim c.if-id-gt0.branch [
      | then-id-gt0 w ↦ (let len = length-usage_text_next ways used id nobody c.loop-id-test.true w.if-id-gt0.true in
          record {
            bytes = usage_text-next ways used id nobody c.args.out.now.bytes c.loop-id.out.bytes c.if-id-gt0.out.bytes c.print_domain.new.out.bytes c.loop-id-test.true w.if-id-gt0.true c.loop-id.invariant.bytes (ap (λ (b : Roomy). b.bytes) w.out-is ∙ w.push.ensures.bytes) c.print_domain.ensures.bytes;
            spare = omega (arith, len, ap (λ (b : Roomy). b.spare) w.out-is, w.push.ensures.spare, c.print_domain.ensures.spare, c.loop-id.invariant.spare);
            room = omega (arith, len, c.print_domain.ensures.len, c.loop-id.invariant.room);
          })
      | else-id-gt0 w ↦ (let len = length-usage_text_first ways used id nobody c.loop-id-test.true w.if-id-gt0.false in
          record {
            bytes = usage_text-first ways used id nobody c.args.out.now.bytes c.if-id-gt0.out.bytes c.print_domain.new.out.bytes c.loop-id-test.true w.if-id-gt0.false (ap (λ (b : Roomy). b.bytes) w.out-is ∙ c.loop-id.invariant.bytes) c.print_domain.ensures.bytes;
            spare = omega (arith, len, ap (λ (b : Roomy). b.spare) w.out-is, c.print_domain.ensures.spare, c.loop-id.invariant.spare);
            room = omega (arith, len, c.print_domain.ensures.len, c.loop-id.invariant.room);
          })
    ]
