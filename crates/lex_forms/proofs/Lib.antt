mod FormSteps
