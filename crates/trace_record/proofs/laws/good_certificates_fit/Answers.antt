-- A good certificate bounds the activations of the run.
use Rattle.trace_record.proofs.laws.good_certificates_fit.Goals as goal

pub returns : goal.returns
returns c = λ plant task cert mode events state is once exists good run declared.
    c.recordings_fit.ensures plant cert.states task cert.bound mode events state
    (record { belongs = is; closed = good.closed; run = run; pairs = declared.returns }) exists declared.arrivals
    (λ activation has of_task.
    c.good_certificates_bound_activations.ensures plant task cert is once exists good mode events state activation run declared has of_task)
